use Rattle.std.proofs.Common.{◌≡◌, ◌<◌, ◌∷◌, [], ◌++◌, None, length, map, option_map, string_bytes, sym, ap, ap₂, subst, ◌∙◌, rules, arith}
use Rattle.std.specs.Option.{option_copied}
use Rattle.std.specs.String.{string_eq}
use Rattle.indexmap.specs.IndexMap.{insert_entry}
use Rattle.ft_base.specs.Job.{Func}
use Rattle.func_table.specs.Rows.{Table, IsNamed, IsTable, number_of}
use Rattle.func_table.specs.TableFields.{func_of, table_of}
use Rattle.func_table.proofs.RowLemmas.{funcs-insert_entry, IsTable-added, none_from_find}
use Rattle.func_table.proofs.table.FuncTable.add.Goals as goal

-- the function that is added
abbrev func : (c : goal.Joined-branch-4) → Func
func c = record { name = c.args.name.now; owner = option_copied c.args.owner }

-- its names are names
named : (c : goal.Joined-branch-4) → IsNamed (func c)
named c = record { name = c.requires.name; owner = c.requires.owner }

-- the name is new
is_new : (c : goal.Joined-branch-4) → number_of (table_of c.self.inside) c.args.name.now ≡ None
is_new c = ap (λ t. number_of t c.args.name.now) c.self.view_is ∙ none_from_find (λ f. f.0) c.find.result _ c.find.ensures.value (search rules)

-- the functions after the insert
funcs_after : (c : goal.Joined-branch-4) → map func_of c.insert.new.self.entries ≡ (table_of c.self.inside).functions ++ func c ∷ []
funcs_after c =
    let es = c.self.inside.functions.entries in
    let inserted : c.insert.new.self.entries ≡ insert_entry string_eq es c.in_ok-key.key c.in_ok-value.value = search rules in
    let key : string_bytes c.in_ok-key.key ≡ c.args.name.now = search rules in
    let value : option_map string_bytes c.in_ok-value.value ≡ option_copied c.args.owner = search rules in
    let new : number_of (table_of c.self.inside) (string_bytes c.in_ok-key.key) ≡ None = ap (number_of (table_of c.self.inside)) key ∙ is_new c in
    ap (map func_of) inserted ∙ funcs-insert_entry es c.in_ok-key.key c.in_ok-value.value new
    ∙ ap₂ (λ k v. map func_of es ++ record { name = k; owner = v } ∷ []) key value

room : (c : goal.Joined-branch-4) → length (table_of c.self.inside).functions < c.self.inside.limit
room c =
    let e : length (table_of c.self.inside).functions ≡ length c.args.self.now.functions = ap (λ (t : Table). length t.functions) c.self.view_is in
    omega arith

pub invariant_of-self-2 : goal.invariant_of-self-2
invariant_of-self-2 c =
    subst (λ fs. IsTable (record { functions = fs; limit = c.self.inside.limit })) (sym (funcs_after c))
    (IsTable-added (table_of c.self.inside) (func c) (named c) (is_new c) (room c) c.self.invariant)

pub returns-clause-added : goal.returns-clause-added
returns-clause-added c = record {
  number = c.len-number.ensures.value;
  functions = funcs_after c ∙ ap (λ (t : Table). t.functions ++ func c ∷ []) c.self.view_is;
  limit = ap (λ (t : Table). t.limit) c.self.view_is;
}
