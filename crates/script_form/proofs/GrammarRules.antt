-- Words that have a form are those that the grammar writes for it.
use Rattle.std.proofs.Common.{◌≡◌, ℕ, Bool, true, false, List, [], ◌∷◌, codes, Some, None, refl, sym, subst, if◌then◌else◌}
use Rattle.std.specs.Prelude.{option_map}
use Rattle.std.specs.Str.{bytes_eq}
use Rattle.ft_base.specs.declared.context.Ctx.TheVariants.{Softirq, Irq, Nmi}
use Rattle.ft_base.specs.declared.user.Half.{Half}
use Rattle.ft_base.specs.declared.user.Half.TheVariants.{Filter, Notrace}
use Rattle.script_text.specs.Lines.{Word}
use Rattle.script_text.specs.Words.{all_read}
use Rattle.script_text.specs.Names.{is_name, name_of, number_of}
use Rattle.ft_schedule.specs.Items.{some_items_of}
use Rattle.script_form.specs.Forms.{LineForm, skip, version, func, depth, tramps, absent, ring, tracing_off, trigger, new_cpu, new_task, new_lane, call, ret, raise, lower, after, register, unregister, write, pids, enable, disable, max_depth, until, load, unload, sched, only_name, only_number, only_word, alone, version_form, func_form, tracing_form, cpu_form, task_form, arrow_of, write_form, until_form, ctl_form}
use Rattle.script_form.specs.Lines.{act_form, keyed_form, form_of}
use Rattle.script_form.specs.Grammar.{half_word, HasForm, nothing, first_version, second_version, third_version, a_function, a_module_function, a_depth, some_tramps, an_absent, a_ring, tracing_is_off, a_trigger, a_cpu, a_task, a_lane, a_call, a_ret, a_softirq, an_irq, an_nmi, an_iret, an_after, a_register, an_unregister, a_write, an_append, a_clear, only_pids, other_pids, an_enable, a_disable, a_max_depth, an_until, a_load, an_unload, a_schedule}
use Rattle.script_text.proofs.KeyLemmas.{is_key, at_key, named}
use Rattle.script_text.proofs.WordLemmas.{made_of_one, made_of_both}
use Rattle.script_form.proofs.UserRules.{user-rule}

-- `>` or `>>`, by whether it appends
abbrev arrow : Bool → Word
arrow append = if append then codes ">>" else codes ">"

arrow-is : (word : Word) (append : Bool) → arrow_of word ≡ Some append → arrow append ≡ word
arrow-is word append e = by (bytes_eq word (codes ">")) (bytes_eq word (codes ">>")) refl refl e
  where
    by : (a b : Bool) → bytes_eq word (codes ">") ≡ a → bytes_eq word (codes ">>") ≡ b → (if a then Some false else (if b then Some true else None)) ≡ Some append → arrow append ≡ word
    by true b is are e = let same : false ≡ append = cc in subst (λ x. arrow x ≡ word) same (sym (is_key word (codes ">") is))
    by false true is are e = let same : true ≡ append = cc in subst (λ x. arrow x ≡ word) same (sym (is_key word (codes ">>") are))
    by false false is are e = absurd (cc)

arrowed : (half : Half) (name text : Word) → is_name name ≡ true → (append : Bool) → HasForm (codes "ctl" ∷ half_word half ∷ name ∷ arrow append ∷ text ∷ []) (write half append name text)
arrowed half name text is false = a_write half name text is
arrowed half name text is true = an_append half name text is

module _ (form : LineForm) where
  -- ---- arguments

  -- one word, which is a name
  of_name : (G : LineForm → Type 0) (f : Word → LineForm) (word : Word) → (is_name word ≡ true → G (f word)) → option_map f (name_of word) ≡ Some form → G form
  of_name G f word rule e = made_of_one form G f (name_of word) (λ name is. let n = named word name is in subst (λ w. G (f w)) n.1 (rule n.0)) e

  only_names : (H : List Word → LineForm → Type 0) (f : Word → LineForm) → ((word : Word) → is_name word ≡ true → H (word ∷ []) (f word)) → (args : List Word) → option_map f (only_name args) ≡ Some form → H args form
  only_names H f rule [] e = absurd (cc)
  only_names H f rule (word ∷ []) e = of_name (H (word ∷ [])) f word (rule word) e
  only_names H f rule (_ ∷ _ ∷ _) e = absurd (cc)

  only_numbers : (H : List Word → LineForm → Type 0) (f : ℕ → LineForm) → ((word : Word) (n : ℕ) → number_of word ≡ Some n → H (word ∷ []) (f n)) → (args : List Word) → option_map f (only_number args) ≡ Some form → H args form
  only_numbers H f rule [] e = absurd (cc)
  only_numbers H f rule (word ∷ []) e = made_of_one form (H (word ∷ [])) f (number_of word) (rule word) e
  only_numbers H f rule (_ ∷ _ ∷ _) e = absurd (cc)

  only_words : (H : List Word → LineForm → Type 0) (f : Word → LineForm) → ((word : Word) → H (word ∷ []) (f word)) → (args : List Word)
      → option_map f (only_word args) ≡ Some form → H args form
  only_words H f rule [] e = absurd (cc)
  only_words H f rule (word ∷ []) e = let same : f word ≡ form = cc in subst (H (word ∷ [])) same (rule word)
  only_words H f rule (_ ∷ _ ∷ _) e = absurd (cc)

  no_arguments : (H : List Word → LineForm → Type 0) (f : LineForm) → H [] f → (args : List Word) → alone f args ≡ Some form → H args form
  no_arguments H f rule [] e = let same : f ≡ form = cc in subst (H []) same rule
  no_arguments H f rule (_ ∷ _) e = absurd (cc)

  -- ---- declarations

  version-rule : (args : List Word) → version_form args ≡ Some form → HasForm (codes "ftrace" ∷ args) form
  version-rule [] e = absurd (cc)
  version-rule (n ∷ []) e =
      at_key (Some form) (λ ws. HasForm (codes "ftrace" ∷ ws) form) n (codes "1") [] (λ is. let same : version 1 ≡ form = cc in subst (HasForm (codes "ftrace" ∷ codes "1" ∷ [])) same first_version)
      (at_key (Some form) (λ ws. HasForm (codes "ftrace" ∷ ws) form) n (codes "2") [] (λ is. let same : version 2 ≡ form = cc in subst (HasForm (codes "ftrace" ∷ codes "2" ∷ [])) same second_version)
      (at_key (Some form) (λ ws. HasForm (codes "ftrace" ∷ ws) form) n (codes "3") [] (λ is. let same : version 3 ≡ form = cc in subst (HasForm (codes "ftrace" ∷ codes "3" ∷ [])) same third_version)
      (λ none. absurd (cc)))) e
  version-rule (_ ∷ _ ∷ _) e = absurd (cc)

  func-rule : (args : List Word) → func_form args ≡ Some form → HasForm (codes "func" ∷ args) form
  func-rule [] e = absurd (cc)
  func-rule (name ∷ []) e = of_name (HasForm (codes "func" ∷ name ∷ [])) (λ n. func n None) name (a_function name) e
  func-rule (name ∷ owner ∷ []) e =
      made_of_both form (HasForm (codes "func" ∷ name ∷ owner ∷ [])) (λ n o. func n (Some o)) (name_of name) (name_of owner)
      (λ n o is are.
      let m = named name n is in
      let w = named owner o are in
      subst (λ x. HasForm (codes "func" ∷ name ∷ owner ∷ []) (func x (Some o))) m.1 (subst (λ x. HasForm (codes "func" ∷ name ∷ owner ∷ []) (func name (Some x))) w.1 (a_module_function name owner m.0 w.0))) e
  func-rule (_ ∷ _ ∷ _ ∷ _) e = absurd (cc)

  tracing-rule : (args : List Word) → tracing_form args ≡ Some form → HasForm (codes "tracing" ∷ args) form
  tracing-rule [] e = absurd (cc)
  tracing-rule (word ∷ []) e =
      at_key (Some form) (λ ws. HasForm (codes "tracing" ∷ ws) form) word (codes "off") []
      (λ is. let same : tracing_off ≡ form = cc in subst (HasForm (codes "tracing" ∷ codes "off" ∷ [])) same tracing_is_off) (λ none. absurd (cc)) e
  tracing-rule (_ ∷ _ ∷ _) e = absurd (cc)

  cpu-rule : (args : List Word) → cpu_form args ≡ Some form → HasForm (codes "cpu" ∷ args) form
  cpu-rule [] e = absurd (cc)
  cpu-rule (_ ∷ []) e = absurd (cc)
  cpu-rule (_ ∷ _ ∷ []) e = absurd (cc)
  cpu-rule (first ∷ word ∷ second ∷ []) e =
      at_key (Some form) (λ ws. HasForm (codes "cpu" ∷ first ∷ ws) form) word (codes "quantum") (second ∷ [])
      (made_of_both form (HasForm (codes "cpu" ∷ first ∷ codes "quantum" ∷ second ∷ [])) new_cpu (number_of first) (number_of second) (a_cpu first second)) (λ none. absurd (cc)) e
  cpu-rule (_ ∷ _ ∷ _ ∷ _ ∷ _) e = absurd (cc)

  task-rule : (args : List Word) → task_form args ≡ Some form → HasForm (codes "task" ∷ args) form
  task-rule [] e = absurd (cc)
  task-rule (_ ∷ []) e = absurd (cc)
  task-rule (_ ∷ _ ∷ []) e = absurd (cc)
  task-rule (first ∷ word ∷ second ∷ []) e =
      at_key (Some form) (λ ws. HasForm (codes "task" ∷ first ∷ ws) form) word (codes "cpu") (second ∷ [])
      (made_of_both form (HasForm (codes "task" ∷ first ∷ codes "cpu" ∷ second ∷ [])) new_task (number_of first) (number_of second) (a_task first second)) (λ none. absurd (cc)) e
  task-rule (_ ∷ _ ∷ _ ∷ _ ∷ _) e = absurd (cc)

  -- ---- control

  write-rule : (half : Half) (args : List Word) → write_form half args ≡ Some form → HasForm (codes "ctl" ∷ half_word half ∷ args) form
  write-rule half [] e = absurd (cc)
  write-rule half (_ ∷ []) e = absurd (cc)
  write-rule half (name ∷ word ∷ []) e =
      at_key (Some form) (λ ws. HasForm (codes "ctl" ∷ half_word half ∷ name ∷ ws) form) word (codes ">") []
      (of_name (HasForm (codes "ctl" ∷ half_word half ∷ name ∷ codes ">" ∷ [])) (λ n. write half false n []) name (a_clear half name)) (λ none. absurd (cc)) e
  write-rule half (name ∷ word ∷ text ∷ []) e =
      made_of_both form (HasForm (codes "ctl" ∷ half_word half ∷ name ∷ word ∷ text ∷ [])) (λ n append. write half append n text) (name_of name) (arrow_of word)
      (λ n append is are.
      let m = named name n is in
      subst (λ x. HasForm (codes "ctl" ∷ half_word half ∷ name ∷ word ∷ text ∷ []) (write half append x text)) m.1
      (subst (λ w. HasForm (codes "ctl" ∷ half_word half ∷ name ∷ w ∷ text ∷ []) (write half append name text)) (arrow-is word append are) (arrowed half name text m.0 append))) e
  write-rule half (_ ∷ _ ∷ _ ∷ _ ∷ _) e = absurd (cc)

  until-rule : (args : List Word) → until_form args ≡ Some form → HasForm (codes "ctl" ∷ codes "until" ∷ args) form
  until-rule [] e = absurd (cc)
  until-rule (_ ∷ []) e = absurd (cc)
  until-rule (first ∷ second ∷ []) e = made_of_both form (HasForm (codes "ctl" ∷ codes "until" ∷ first ∷ second ∷ [])) until (number_of first) (number_of second) (an_until first second) e
  until-rule (_ ∷ _ ∷ _ ∷ _) e = absurd (cc)

  ctl-rule : (args : List Word) → ctl_form args ≡ Some form → HasForm (codes "ctl" ∷ args) form
  ctl-rule [] e = absurd (cc)
  ctl-rule (key ∷ args) e =
      at_key (Some form) (λ ws. HasForm (codes "ctl" ∷ ws) form) key (codes "pid") args (made_of_one form (HasForm (codes "ctl" ∷ codes "pid" ∷ args)) (pids false) (all_read number_of args) (only_pids args))
      (at_key (Some form) (λ ws. HasForm (codes "ctl" ∷ ws) form) key (codes "nopid") args (made_of_one form (HasForm (codes "ctl" ∷ codes "nopid" ∷ args)) (pids true) (all_read number_of args) (other_pids args))
      (at_key (Some form) (λ ws. HasForm (codes "ctl" ∷ ws) form) key (codes "register") args (only_names (λ ws f. HasForm (codes "ctl" ∷ codes "register" ∷ ws) f) register a_register args)
      (at_key (Some form) (λ ws. HasForm (codes "ctl" ∷ ws) form) key (codes "unregister") args (only_names (λ ws f. HasForm (codes "ctl" ∷ codes "unregister" ∷ ws) f) unregister an_unregister args)
      (at_key (Some form) (λ ws. HasForm (codes "ctl" ∷ ws) form) key (codes "filter") args (write-rule Filter args)
      (at_key (Some form) (λ ws. HasForm (codes "ctl" ∷ ws) form) key (codes "notrace") args (write-rule Notrace args)
      (at_key (Some form) (λ ws. HasForm (codes "ctl" ∷ ws) form) key (codes "enable") args (only_names (λ ws f. HasForm (codes "ctl" ∷ codes "enable" ∷ ws) f) enable an_enable args)
      (at_key (Some form) (λ ws. HasForm (codes "ctl" ∷ ws) form) key (codes "disable") args (only_names (λ ws f. HasForm (codes "ctl" ∷ codes "disable" ∷ ws) f) disable a_disable args)
      (at_key (Some form) (λ ws. HasForm (codes "ctl" ∷ ws) form) key (codes "maxdepth") args (only_numbers (λ ws f. HasForm (codes "ctl" ∷ codes "maxdepth" ∷ ws) f) max_depth a_max_depth args)
      (at_key (Some form) (λ ws. HasForm (codes "ctl" ∷ ws) form) key (codes "until") args (until-rule args)
      (at_key (Some form) (λ ws. HasForm (codes "ctl" ∷ ws) form) key (codes "load") args (only_names (λ ws f. HasForm (codes "ctl" ∷ codes "load" ∷ ws) f) load a_load args)
      (at_key (Some form) (λ ws. HasForm (codes "ctl" ∷ ws) form) key (codes "unload") args (only_names (λ ws f. HasForm (codes "ctl" ∷ codes "unload" ∷ ws) f) unload an_unload args)
      (λ none. absurd (cc))))))))))))) e

  -- ---- acts, and all lines

  act-rule : (key : Word) (args : List Word) → act_form key args ≡ Some form → HasForm (key ∷ args) form
  act-rule key args e =
      at_key (Some form) (λ ws. HasForm ws form) key (codes "call") args (only_names (λ ws f. HasForm (codes "call" ∷ ws) f) call a_call args)
      (at_key (Some form) (λ ws. HasForm ws form) key (codes "ret") args (no_arguments (λ ws f. HasForm (codes "ret" ∷ ws) f) ret a_ret args)
      (at_key (Some form) (λ ws. HasForm ws form) key (codes "softirq") args (no_arguments (λ ws f. HasForm (codes "softirq" ∷ ws) f) (raise Softirq) a_softirq args)
      (at_key (Some form) (λ ws. HasForm ws form) key (codes "irq") args (no_arguments (λ ws f. HasForm (codes "irq" ∷ ws) f) (raise Irq) an_irq args)
      (at_key (Some form) (λ ws. HasForm ws form) key (codes "nmi") args (no_arguments (λ ws f. HasForm (codes "nmi" ∷ ws) f) (raise Nmi) an_nmi args)
      (at_key (Some form) (λ ws. HasForm ws form) key (codes "iret") args (no_arguments (λ ws f. HasForm (codes "iret" ∷ ws) f) lower an_iret args)
      (at_key (Some form) (λ ws. HasForm ws form) key (codes "after") args (only_numbers (λ ws f. HasForm (codes "after" ∷ ws) f) after an_after args)
      (λ none. absurd (cc)))))))) e

  keyed-rule : (key : Word) (args : List Word) → keyed_form key args ≡ Some form → HasForm (key ∷ args) form
  keyed-rule key args e =
      at_key (Some form) (λ ws. HasForm ws form) key (codes "ctl") args (ctl-rule args)
      (at_key (Some form) (λ ws. HasForm ws form) key (codes "sched") args (made_of_one form (HasForm (codes "sched" ∷ args)) sched (some_items_of args) (a_schedule args))
      (at_key (Some form) (λ ws. HasForm ws form) key (codes "ftrace") args (version-rule args)
      (at_key (Some form) (λ ws. HasForm ws form) key (codes "func") args (func-rule args)
      (at_key (Some form) (λ ws. HasForm ws form) key (codes "depth") args (only_numbers (λ ws f. HasForm (codes "depth" ∷ ws) f) depth a_depth args)
      (at_key (Some form) (λ ws. HasForm ws form) key (codes "tramps") args (only_numbers (λ ws f. HasForm (codes "tramps" ∷ ws) f) tramps some_tramps args)
      (at_key (Some form) (λ ws. HasForm ws form) key (codes "absent") args (only_names (λ ws f. HasForm (codes "absent" ∷ ws) f) absent an_absent args)
      (at_key (Some form) (λ ws. HasForm ws form) key (codes "ring") args (only_numbers (λ ws f. HasForm (codes "ring" ∷ ws) f) ring a_ring args)
      (at_key (Some form) (λ ws. HasForm ws form) key (codes "tracing") args (tracing-rule args)
      (at_key (Some form) (λ ws. HasForm ws form) key (codes "trigger") args (only_words (λ ws f. HasForm (codes "trigger" ∷ ws) f) trigger a_trigger args)
      (at_key (Some form) (λ ws. HasForm ws form) key (codes "user") args (user-rule form args)
      (at_key (Some form) (λ ws. HasForm ws form) key (codes "cpu") args (cpu-rule args)
      (at_key (Some form) (λ ws. HasForm ws form) key (codes "task") args (task-rule args)
      (at_key (Some form) (λ ws. HasForm ws form) key (codes "lane") args (only_numbers (λ ws f. HasForm (codes "lane" ∷ ws) f) new_lane a_lane args)
      (act-rule key args)))))))))))))) e

  pub form_of-rule : (words : List Word) → form_of words ≡ Some form → HasForm words form
  form_of-rule [] e = let same : skip ≡ form = cc in subst (HasForm []) same nothing
  form_of-rule (key ∷ args) e = keyed-rule key args e
