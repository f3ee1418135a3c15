use Rattle.std.proofs.Common.{◌≡◌, ◌≤◌, length, ap, ap₂, sym, subst, ◌∙◌}
use Rattle.std.specs.Prelude.{IfSome}
use Rattle.std.proofs.lemmas.List.{length-map}
use Rattle.ft_base.specs.Marks.{Marks}
use Rattle.ft_base.specs.declared.limits.TheConstants.{FUNCS, USERS}
use Rattle.module_table.specs.Lines.{first_hidden}
use Rattle.module_table.proofs.OpeningLaws.{first-sized, made-first, reached-made, depth-made, users-made, funcs-made, loaded-made, modifiers-made}
use Rattle.module_table.proofs.modules.Modules.new.Goals as goal

pub opened-requires-clause-first : goal.opened-requires-clause-first
opened-requires-clause-first c = subst (λ o. IfSome o (λ (h : Marks). length h ≡ c.args.shape.funcs)) (sym c.in_ok-first.ensures)
    (first-sized c.as_slice.result.now c.as_slice-2.result.now c.args.absent.now c.args.shape.funcs
    (ap length (c.as_slice.ensures.value ∙ c.in_ok-owners.ensures) ∙ length-map c.args.table.now.functions _ ∙ c.requires.functions))

pub invariant_of-result : goal.invariant_of-result
invariant_of-result c = record {
  reached = reached-made c.args.specs.now c.args.shape c.requires.users c.args.table.now.functions c.requires.functions c.args.absent.now c.in_ok-names.names c.len.result c.in_ok-owners.owners.items c.in_ok-loaded.loaded.items c.in_ok-first.first c.in_ok-own.own.items c.in_ok-desk.desk
      c.in_ok-names.ensures c.len.ensures.value c.in_ok-owners.ensures c.in_ok-loaded.ensures (c.in_ok-first.ensures ∙ ap₂ (λ o l. first_hidden o l c.args.absent.now) c.as_slice.ensures.value c.as_slice-2.ensures.value) c.in_ok-own.ensures c.in_ok-desk.ensures.declared c.in_ok-desk.ensures.state c.in_ok-desk.ensures.count;
  modifiers = c.in_ok-modifiers.ensures ∙ modifiers-made c.args.specs.now c.args.shape c.requires.users c.args.table.now.functions c.requires.functions c.args.absent.now c.in_ok-names.names c.len.result c.in_ok-owners.owners.items c.in_ok-loaded.loaded.items c.in_ok-first.first c.in_ok-own.own.items c.in_ok-desk.desk
      c.in_ok-names.ensures c.len.ensures.value c.in_ok-owners.ensures c.in_ok-loaded.ensures (c.in_ok-first.ensures ∙ ap₂ (λ o l. first_hidden o l c.args.absent.now) c.as_slice.ensures.value c.as_slice-2.ensures.value) c.in_ok-own.ensures c.in_ok-desk.ensures.declared c.in_ok-desk.ensures.state c.in_ok-desk.ensures.count;
  few = subst (λ n. n ≤ USERS) (sym (users-made c.args.specs.now c.args.shape c.requires.users c.args.table.now.functions c.requires.functions c.args.absent.now c.in_ok-names.names c.len.result c.in_ok-owners.owners.items c.in_ok-loaded.loaded.items c.in_ok-first.first c.in_ok-own.own.items c.in_ok-desk.desk
      c.in_ok-names.ensures c.len.ensures.value c.in_ok-owners.ensures c.in_ok-loaded.ensures (c.in_ok-first.ensures ∙ ap₂ (λ o l. first_hidden o l c.args.absent.now) c.as_slice.ensures.value c.as_slice-2.ensures.value) c.in_ok-own.ensures c.in_ok-desk.ensures.declared c.in_ok-desk.ensures.state c.in_ok-desk.ensures.count)) c.requires.shape.counts.few_users;
  modules = subst (λ n. n ≤ FUNCS) (sym (loaded-made c.args.specs.now c.args.shape c.requires.users c.args.table.now.functions c.requires.functions c.args.absent.now c.in_ok-names.names c.len.result c.in_ok-owners.owners.items c.in_ok-loaded.loaded.items c.in_ok-first.first c.in_ok-own.own.items c.in_ok-desk.desk
      c.in_ok-names.ensures c.len.ensures.value c.in_ok-owners.ensures c.in_ok-loaded.ensures (c.in_ok-first.ensures ∙ ap₂ (λ o l. first_hidden o l c.args.absent.now) c.as_slice.ensures.value c.as_slice-2.ensures.value) c.in_ok-own.ensures c.in_ok-desk.ensures.declared c.in_ok-desk.ensures.state c.in_ok-desk.ensures.count)) c.len.ensures.few;
  small = subst (λ n. n ≤ FUNCS) (sym (funcs-made c.args.specs.now c.args.shape c.requires.users c.args.table.now.functions c.requires.functions c.args.absent.now c.in_ok-names.names c.len.result c.in_ok-owners.owners.items c.in_ok-loaded.loaded.items c.in_ok-first.first c.in_ok-own.own.items c.in_ok-desk.desk
      c.in_ok-names.ensures c.len.ensures.value c.in_ok-owners.ensures c.in_ok-loaded.ensures (c.in_ok-first.ensures ∙ ap₂ (λ o l. first_hidden o l c.args.absent.now) c.as_slice.ensures.value c.as_slice-2.ensures.value) c.in_ok-own.ensures c.in_ok-desk.ensures.declared c.in_ok-desk.ensures.state c.in_ok-desk.ensures.count)) c.requires.shape.counts.few_functions;
  depth = depth-made c.args.specs.now c.args.shape c.requires.users c.args.table.now.functions c.requires.functions c.args.absent.now c.in_ok-names.names c.len.result c.in_ok-owners.owners.items c.in_ok-loaded.loaded.items c.in_ok-first.first c.in_ok-own.own.items c.in_ok-desk.desk
      c.in_ok-names.ensures c.len.ensures.value c.in_ok-owners.ensures c.in_ok-loaded.ensures (c.in_ok-first.ensures ∙ ap₂ (λ o l. first_hidden o l c.args.absent.now) c.as_slice.ensures.value c.as_slice-2.ensures.value) c.in_ok-own.ensures c.in_ok-desk.ensures.declared c.in_ok-desk.ensures.state c.in_ok-desk.ensures.count;
}

pub returns : goal.returns
returns c = made-first c.args.specs.now c.args.shape c.requires.users c.args.table.now.functions c.requires.functions c.args.absent.now c.in_ok-names.names c.len.result c.in_ok-owners.owners.items c.in_ok-loaded.loaded.items c.in_ok-first.first c.in_ok-own.own.items c.in_ok-desk.desk
    c.in_ok-names.ensures c.len.ensures.value c.in_ok-owners.ensures c.in_ok-loaded.ensures (c.in_ok-first.ensures ∙ ap₂ (λ o l. first_hidden o l c.args.absent.now) c.as_slice.ensures.value c.as_slice-2.ensures.value) c.in_ok-own.ensures c.in_ok-desk.ensures.declared c.in_ok-desk.ensures.state c.in_ok-desk.ensures.count
