-- One act more of a task: which spans are still ahead.
use Rattle.std.proofs.Common.{◌≡◌, ◌≢◌, ℕ, zero, suc, ◌+◌, ◌-◌, ◌≤◌, ◌<◌, ◌⊎◌, inl, inr, max, nat_le, Bool, true, false, List, [], ◌∷◌, ◌++◌, length, map, take, drop, get_or, slice_get, Option, Some, refl, sym, ap, ◌∙◌, subst, arith}
use Rattle.std.specs.Prelude.{◌↔◌, Contains, if◌then◌else◌}
use Rattle.std.proofs.lemmas.Bool.{cases_lt, leb-true, leb-false}
use Rattle.std.proofs.lemmas.List.{length_push, get_or-map, length-map}
use Rattle.std.proofs.lemmas.List.Elements.{Contains-append_left, Contains-append_right, Contains-append_cases, Contains-push, Contains-push_cases}
use Rattle.std.proofs.lemmas.Option.{slice_get_within, slice_get-get_or, get_or_from_slice_get, same_Some}
use Rattle.ft_base.specs.declared.context.Ctx.{Ctx}
use Rattle.ft_base.specs.declared.number.FuncNo.{FuncNo}
use Rattle.ft_base.specs.declared.task.TaskAct.{TaskAct}
use Rattle.ft_base.specs.declared.task.TaskAct.TheVariants.{Call, Ret, Raise, Lower, After}
use Rattle.script_waits.specs.declared.script.LinedAct.{LinedAct}
use Rattle.script_waits.specs.declared.script.ControlLine.{ControlLine}
use Rattle.module_coverage.specs.declared.span.Span.{Span}
use Rattle.module_coverage.specs.declared.span.Entered.{Entered}
use Rattle.module_coverage.specs.Covered.{last_after, return_number}
use Rattle.module_coverage.specs.Spans.{acts_in, waits_in, commands_to, IsSpan}
use Rattle.module_coverage.specs.Walks.{span_to, IsAhead, is_open, is_below}

-- ## lists of entered calls

left-at : (xs : List Entered) (e : Entered) (j : ℕ) → j < length xs → slice_get (xs ++ e ∷ []) j ≡ slice_get xs j
left-at [] e j b = absurd (omega (arith, b))
left-at (x ∷ xs) e zero b = refl
left-at (x ∷ xs) e (suc j) b = left-at xs e j (omega (arith, b))

last-at : (xs : List Entered) (e : Entered) → slice_get (xs ++ e ∷ []) (length xs) ≡ Some e
last-at [] e = refl
last-at (x ∷ xs) e = last-at xs e

-- ## numbers of returns

number-call : (a d : ℕ) (f : FuncNo) (ys : List TaskAct) → return_number a d (Call f ∷ ys) ≡ return_number (suc a) (suc d) ys
number-call a zero f ys = refl
number-call a (suc d) f ys = refl

number-plain : (act : TaskAct) → ((f : FuncNo) → act ≢ Call f) → act ≢ Ret → (a d : ℕ) (ys : List TaskAct) → return_number a d (act ∷ ys) ≡ return_number (suc a) d ys
number-plain (Call f) call ret a d ys = absurd (call f refl)
number-plain Ret call ret a d ys = absurd (ret refl)
number-plain (Raise x) call ret a zero ys = refl
number-plain (Raise x) call ret a (suc d) ys = refl
number-plain Lower call ret a zero ys = refl
number-plain Lower call ret a (suc d) ys = refl
number-plain (After n) call ret a zero ys = refl
number-plain (After n) call ret a (suc d) ys = refl

after-no-call : (k : ℕ) (f : FuncNo) → After k ≢ Call f
after-no-call k f e = cc

after-no-return : (k : ℕ) → After k ≢ Ret
after-no-return k e = cc

raise-no-call : (ctx : Ctx) (f : FuncNo) → Raise ctx ≢ Call f
raise-no-call ctx f e = cc

raise-no-return : (ctx : Ctx) → Raise ctx ≢ Ret
raise-no-return ctx e = cc

lower-no-call : (f : FuncNo) → Lower ≢ Call f
lower-no-call f e = cc

lower-no-return : Lower ≢ Ret
lower-no-return e = cc

-- the greater of two numbers
greater : (n k : ℕ) → (if nat_le n k then k else n) ≡ max n k
greater n k = by (nat_le n k) refl
  where
    by : (b : Bool) → nat_le n k ≡ b → (if b then k else n) ≡ max n k
    by true e = let up : n ≤ k = leb-true n k e in omega (arith, up)
    by false e = let down : k < n = leb-false n k e in omega (arith, down)

-- ## equivalent statements

pub both : {P Q R : Type 0} → P ↔ Q → Q ↔ R → P ↔ R
both f g = (λ p. g.0 (f.0 p), λ r. f.1 (g.1 r))

pub turned : {P Q : Type 0} → P ↔ Q → Q ↔ P
turned f = (f.1, f.0)

module _ (control : List ControlLine) (t : ℕ) where
  -- how many commands have begun at most when the act of this number is passed
  abbrev at : ℕ → ℕ
  at n = commands_to t n 0 (waits_in control)

  -- ## calls below, after one act more

  module _ (a from later : ℕ) (x : LinedAct) (rest : List LinedAct) (s : Span) (next : (ys : List TaskAct) → last_after from (x.act ∷ ys) ≡ last_after later ys) where
    below-to : (other : (f : FuncNo) → x.act ≢ Call f) (entered : List Entered) (i n : ℕ) → n ≡ a + suc i → slice_get (x ∷ rest) i ≡ Some (record { act = Call s.func; line = s.line })
        → s.from ≡ last_after from (take i (acts_in (x ∷ rest))) → s.to ≡ at (return_number n 0 (drop (suc i) (acts_in (x ∷ rest)))) → IsAhead control t (suc a) later entered rest s
    below-to other entered zero n e c f g = let same : x.act ≡ Call s.func = cc in absurd (other s.func same)
    below-to other entered (suc i) n e c f g = is_below i n (omega (arith, e)) c (f ∙ next (take i (acts_in rest))) g

    below-from : (entered : List Entered) (i n : ℕ) → n ≡ suc a + suc i → slice_get rest i ≡ Some (record { act = Call s.func; line = s.line })
        → s.from ≡ last_after later (take i (acts_in rest)) → s.to ≡ at (return_number n 0 (drop (suc i) (acts_in rest))) → IsAhead control t a from entered (x ∷ rest) s
    below-from entered i n e c f g = is_below (suc i) n (omega (arith, e)) c (f ∙ sym (next (take i (acts_in rest)))) g

  -- an act that is neither a call nor a return
  pub plain-step : (a from later : ℕ) (entered : List Entered) (x : LinedAct) (rest : List LinedAct) (s : Span) → ((f : FuncNo) → x.act ≢ Call f)
      → ((d : ℕ) (ys : List TaskAct) → return_number a d (x.act ∷ ys) ≡ return_number (suc a) d ys) → ((ys : List TaskAct) → last_after from (x.act ∷ ys) ≡ last_after later ys)
      → IsAhead control t a from entered (x ∷ rest) s ↔ IsAhead control t (suc a) later entered rest s
  plain-step a from later entered x rest s other number next = (
    λ w. elim w [
      | is_open j e k ↦ is_open j e (k ∙ ap at (number (length entered - suc j) (acts_in rest)))
      | is_below i n e c f g ↦ below-to a from later x rest s next other entered i n e c f g
    ],
    λ w. elim w [
      | is_open j e k ↦ is_open j e (k ∙ sym (ap at (number (length entered - suc j) (acts_in rest))))
      | is_below i n e c f g ↦ below-from a from later x rest s next entered i n e c f g
    ],
  )

  -- a call
  module _ (a from l : ℕ) (f : FuncNo) (entered : List Entered) (rest : List LinedAct) (s : Span) where
    same-func : Call f ≡ Call s.func → f ≡ s.func
    same-func e = cc

    same-entry : ◌≡◌ {A = LinedAct} (record { act = Call f; line = l }) (record { act = Call s.func; line = s.line }) → from ≡ s.from
        → ◌≡◌ {A = Entered} (record { line = l; func = f; from = from }) (record { line = s.line; func = s.func; from = s.from })
    same-entry e g =
        let line : l ≡ s.line = ap (λ (y : LinedAct). y.line) e in
        let func : f ≡ s.func = same-func (ap (λ (y : LinedAct). y.act) e) in
        rw (line, func, g) refl

    abbrev more : List Entered
    more = entered ++ record { line = l; func = f; from = from } ∷ []

    call-below : (i n : ℕ) → n ≡ a + suc i → slice_get (record { act = Call f; line = l } ∷ rest) i ≡ Some (record { act = Call s.func; line = s.line })
        → s.from ≡ last_after from (take i (Call f ∷ acts_in rest)) → s.to ≡ at (return_number n 0 (drop (suc i) (Call f ∷ acts_in rest))) → IsAhead control t (suc a) from more rest s
    call-below zero n e c g h =
        let one : n ≡ suc a = omega (arith, e) in
        let act : ◌≡◌ {A = LinedAct} (record { act = Call f; line = l }) (record { act = Call s.func; line = s.line }) = cc in
        let same : ◌≡◌ {A = Entered} (record { line = l; func = f; from = from }) (record { line = s.line; func = s.func; from = s.from }) = same-entry act (sym g) in
        let long = length_push entered (record { line = l; func = f; from = from }) in
        let none : length more - suc (length entered) ≡ 0 = omega (arith, long) in
        is_open (length entered) (last-at entered (record { line = l; func = f; from = from }) ∙ ap (λ (e : Entered). Some e) same)
        (h ∙ ap (λ (m : ℕ). at (return_number m 0 (acts_in rest))) one ∙ ap (λ (d : ℕ). at (return_number (suc a) d (acts_in rest))) (sym none))
    call-below (suc i) n e c g h = is_below i n (omega (arith, e)) c g h

    call-entered : (j : ℕ) → slice_get entered j ≡ Some (record { line = s.line; func = s.func; from = s.from })
        → s.to ≡ at (return_number a (length entered - suc j) (Call f ∷ acts_in rest)) → IsAhead control t (suc a) from more rest s
    call-entered j e k =
        let inside : j < length entered = slice_get_within entered j _ e in
        let long = length_push entered (record { line = l; func = f; from = from }) in
        let deeper : suc (length entered - suc j) ≡ length more - suc j = omega (arith, long, inside) in
        is_open j (left-at entered (record { line = l; func = f; from = from }) j inside ∙ e)
        (k ∙ ap at (number-call a (length entered - suc j) f (acts_in rest)) ∙ ap (λ (d : ℕ). at (return_number (suc a) d (acts_in rest))) deeper)

    call-opened : (j : ℕ) → slice_get more j ≡ Some (record { line = s.line; func = s.func; from = s.from })
        → s.to ≡ at (return_number (suc a) (length more - suc j) (acts_in rest)) → IsAhead control t a from entered (record { act = Call f; line = l } ∷ rest) s
    call-opened j e k =
        let long = length_push entered (record { line = l; func = f; from = from }) in
        elim (cases_lt j (length entered)) [
          | inl inside ↦
              let deeper : length more - suc j ≡ suc (length entered - suc j) = omega (arith, long, inside) in
              is_open j (sym (left-at entered (record { line = l; func = f; from = from }) j inside) ∙ e)
              (k ∙ ap (λ (d : ℕ). at (return_number (suc a) d (acts_in rest))) deeper ∙ sym (ap at (number-call a (length entered - suc j) f (acts_in rest))))
          | inr past ↦
              let within : j < length more = slice_get_within more j _ e in
              let last : j ≡ length entered = omega (arith, long, within, past) in
              let none : length more - suc j ≡ 0 = omega (arith, long, last) in
              let here : ◌≡◌ {A = Option Entered} (Some (record { line = l; func = f; from = from })) (Some (record { line = s.line; func = s.func; from = s.from })) = sym (last-at entered (record { line = l; func = f; from = from })) ∙ ap (λ (n : ℕ). slice_get more n) (sym last) ∙ e in
              let same : ◌≡◌ {A = Entered} (record { line = l; func = f; from = from }) (record { line = s.line; func = s.func; from = s.from }) = same_Some _ _ here in
              is_below 0 (suc a) (omega arith) (ap (λ (y : Entered). Some (record { act = Call y.func; line = y.line })) same) (sym (ap (λ (y : Entered). y.from) same)) (k ∙ ap (λ (d : ℕ). at (return_number (suc a) d (acts_in rest))) none)
        ]

    pub call-step : IsAhead control t a from entered (record { act = Call f; line = l } ∷ rest) s ↔ IsAhead control t (suc a) from more rest s
    call-step = (
      λ w. elim w [ is_open j e k ↦ call-entered j e k | is_below i n e c g h ↦ call-below i n e c g h ],
      λ w. elim w [ is_open j e k ↦ call-opened j e k | is_below i n e c g h ↦ is_below (suc i) n (omega (arith, e)) c g h ],
    )

  -- a return
  no-call : (f : FuncNo) → Ret ≢ Call f
  no-call f e = cc

  -- of no call
  pub lone-return-step : (a from l : ℕ) (rest : List LinedAct) (s : Span) → IsAhead control t a from [] (record { act = Ret; line = l } ∷ rest) s ↔ IsAhead control t (suc a) from [] rest s
  lone-return-step a from l rest s = (
    λ w. elim w [
      | is_open j e k ↦ cc
      | is_below i n e c f g ↦ below-to a from from (record { act = Ret; line = l }) rest s (λ ys. refl) no-call [] i n e c f g
    ],
    λ w. elim w [
      | is_open j e k ↦ cc
      | is_below i n e c f g ↦ below-from a from from (record { act = Ret; line = l }) rest s (λ ys. refl) [] i n e c f g
    ],
  )

  -- of the latest entered call
  module _ (a from l : ℕ) (xs : List Entered) (call : Entered) (rest : List LinedAct) (s : Span) where
    abbrev all : List Entered
    all = xs ++ call ∷ []

    return-entered : (j : ℕ) → slice_get all j ≡ Some (record { line = s.line; func = s.func; from = s.from })
        → s.to ≡ at (return_number a (length all - suc j) (Ret ∷ acts_in rest)) → (span_to (at (suc a)) call ≡ s) ⊎ IsAhead control t (suc a) from xs rest s
    return-entered j e k =
        let long = length_push xs call in
        elim (cases_lt j (length xs)) [
          | inl inside ↦
              let deeper : length all - suc j ≡ suc (length xs - suc j) = omega (arith, long, inside) in
              inr (is_open j (sym (left-at xs call j inside) ∙ e) (k ∙ ap (λ (d : ℕ). at (return_number a d (Ret ∷ acts_in rest))) deeper))
          | inr past ↦
              let within : j < length all = slice_get_within all j _ e in
              let last : j ≡ length xs = omega (arith, long, within, past) in
              let none : length all - suc j ≡ 0 = omega (arith, long, last) in
              let here : Some call ≡ Some (record { line = s.line; func = s.func; from = s.from }) = sym (last-at xs call) ∙ ap (λ (n : ℕ). slice_get all n) (sym last) ∙ e in
              let same : call ≡ record { line = s.line; func = s.func; from = s.from } = same_Some _ _ here in
              let end : s.to ≡ at (suc a) = k ∙ ap (λ (d : ℕ). at (return_number a d (Ret ∷ acts_in rest))) none in
              inl (ap (span_to (at (suc a))) same ∙ ap (λ (n : ℕ). span_to n (record { line = s.line; func = s.func; from = s.from })) (sym end))
        ]

    return-closed : span_to (at (suc a)) call ≡ s → IsAhead control t a from all (record { act = Ret; line = l } ∷ rest) s
    return-closed e =
        let long = length_push xs call in
        let none : length all - suc (length xs) ≡ 0 = omega (arith, long) in
        let same : call ≡ record { line = s.line; func = s.func; from = s.from } = ap (λ (y : Span). record { line = y.line; func = y.func; from = y.from }) e in
        let end : at (suc a) ≡ s.to = ap (λ (y : Span). y.to) e in
        is_open (length xs) (last-at xs call ∙ ap (λ (y : Entered). Some y) same) (sym end ∙ ap (λ (d : ℕ). at (return_number a d (Ret ∷ acts_in rest))) (sym none))

    return-kept : (j : ℕ) → slice_get xs j ≡ Some (record { line = s.line; func = s.func; from = s.from })
        → s.to ≡ at (return_number (suc a) (length xs - suc j) (acts_in rest)) → IsAhead control t a from all (record { act = Ret; line = l } ∷ rest) s
    return-kept j e k =
        let long = length_push xs call in
        let inside : j < length xs = slice_get_within xs j _ e in
        let deeper : suc (length xs - suc j) ≡ length all - suc j = omega (arith, long, inside) in
        is_open j (left-at xs call j inside ∙ e) (k ∙ ap (λ (d : ℕ). at (return_number a d (Ret ∷ acts_in rest))) deeper)

    pub return-step : IsAhead control t a from all (record { act = Ret; line = l } ∷ rest) s ↔ (span_to (at (suc a)) call ≡ s) ⊎ IsAhead control t (suc a) from xs rest s
    return-step = (
      λ w. elim w [
        | is_open j e k ↦ return-entered j e k
        | is_below i n e c f g ↦ inr (below-to a from from (record { act = Ret; line = l }) rest s (λ ys. refl) no-call xs i n e c f g)
      ],
      λ w. elim w [
        | inl e ↦ return-closed e
        | inr v ↦ elim v [
          | is_open j e k ↦ return-kept j e k
          | is_below i n e c f g ↦ below-from a from from (record { act = Ret; line = l }) rest s (λ ys. refl) all i n e c f g
        ]
      ],
    )

  -- what the walk finds, if the latest open call returns
  pub returned : (a from l : ℕ) (xs : List Entered) (call : Entered) (rest : List LinedAct) (s : Span) (spans : List Span)
      → Contains spans s ⊎ IsAhead control t a from (xs ++ call ∷ []) (record { act = Ret; line = l } ∷ rest) s ↔ Contains (spans ++ span_to (at (suc a)) call ∷ []) s ⊎ IsAhead control t (suc a) from xs rest s
  returned a from l xs call rest s spans =
      let step = return-step a from l xs call rest s in
      let put : span_to (at (suc a)) call ≡ s → Contains (spans ++ span_to (at (suc a)) call ∷ []) s = λ e. subst (λ (x : Span). Contains (spans ++ span_to (at (suc a)) call ∷ []) x) e (Contains-push spans (span_to (at (suc a)) call)) in (
        λ w. elim w [
          | inl v ↦ inl (Contains-append_left spans (span_to (at (suc a)) call ∷ []) s v)
          | inr v ↦ elim (step.0 v) [ inl e ↦ inl (put e) | inr u ↦ inr u ]
        ],
        λ w. elim w [
          | inl v ↦ elim (Contains-push_cases spans (span_to (at (suc a)) call) s v) [ inl u ↦ inl u | inr e ↦ inr (step.1 (inl e)) ]
          | inr v ↦ inr (step.1 (inr v))
        ],
      )

  -- what is found beside what is ahead
  pub beside : {P Q : Type 0} (R : Type 0) → P ↔ Q → R ⊎ P ↔ R ⊎ Q
  beside R h = (λ w. elim w [ inl r ↦ inl r | inr p ↦ inr (h.0 p) ], λ w. elim w [ inl r ↦ inl r | inr q ↦ inr (h.1 q) ])

  -- ## what the walk finds, after each act

  pub finds-left : (a number to from l : ℕ) (all xs : List Entered) (call : Entered) (span : Span) (rest : List LinedAct) (s : Span) (spans more : List Span)
      → number ≡ suc a → at number ≡ to → all ≡ xs ++ call ∷ [] → span ≡ span_to to call → more ≡ spans ++ span ∷ []
      → Contains spans s ⊎ IsAhead control t a from all (record { act = Ret; line = l } ∷ rest) s ↔ Contains more s ⊎ IsAhead control t number from xs rest s
  finds-left a number to from l all xs call span rest s spans more next end opened is put =
      let ended : more ≡ spans ++ span_to (at (suc a)) call ∷ [] = put ∙ ap (λ (x : Span). spans ++ x ∷ []) (is ∙ ap (λ (n : ℕ). span_to n call) (sym end ∙ ap at next)) in
      rw (opened, ended, next) (returned a from l xs call rest s spans)

  pub finds-lone : (a number from l : ℕ) (all xs : List Entered) (rest : List LinedAct) (s : Span) (spans : List Span) → number ≡ suc a → all ≡ [] → xs ≡ []
      → Contains spans s ⊎ IsAhead control t a from all (record { act = Ret; line = l } ∷ rest) s ↔ Contains spans s ⊎ IsAhead control t number from xs rest s
  finds-lone a number from l all xs rest s spans next none left = rw (none, left, next) (beside (Contains spans s) (lone-return-step a from l rest s))

  pub finds-call : (a number from : ℕ) (x : LinedAct) (f : FuncNo) (all more : List Entered) (rest : List LinedAct) (s : Span) (spans : List Span)
      → number ≡ suc a → x.act ≡ Call f → more ≡ all ++ record { line = x.line; func = f; from = from } ∷ []
      → Contains spans s ⊎ IsAhead control t a from all (x ∷ rest) s ↔ Contains spans s ⊎ IsAhead control t number from more rest s
  finds-call a number from x f all more rest s spans next is put =
      let call : ◌≡◌ {A = LinedAct} (record { act = Call f; line = x.line }) x = ap (λ (y : TaskAct). record { act = y; line = x.line }) (sym is) in
      let step = beside (Contains spans s) (call-step a from x.line f all rest s) in
      rw (put, next) (subst (λ (y : LinedAct). Contains spans s ⊎ IsAhead control t a from all (y ∷ rest) s ↔ Contains spans s ⊎ IsAhead control t (suc a) from (all ++ record { line = x.line; func = f; from = from } ∷ []) rest s) call step)

  pub finds-plain : (a number from later : ℕ) (x : LinedAct) (all : List Entered) (rest : List LinedAct) (s : Span) (spans : List Span)
      → number ≡ suc a → ((f : FuncNo) → x.act ≢ Call f) → x.act ≢ Ret → ((ys : List TaskAct) → last_after from (x.act ∷ ys) ≡ last_after later ys)
      → Contains spans s ⊎ IsAhead control t a from all (x ∷ rest) s ↔ Contains spans s ⊎ IsAhead control t number later all rest s
  finds-plain a number from later x all rest s spans next call ret same =
      rw next (beside (Contains spans s) (plain-step a from later all x rest s call (λ d ys. number-plain x.act call ret a d ys) same))

  pub finds-after : (a number from k later : ℕ) (x : LinedAct) (all : List Entered) (rest : List LinedAct) (s : Span) (spans : List Span)
      → number ≡ suc a → x.act ≡ After k → later ≡ max from k
      → Contains spans s ⊎ IsAhead control t a from all (x ∷ rest) s ↔ Contains spans s ⊎ IsAhead control t number later all rest s
  finds-after a number from k later x all rest s spans next is most =
      finds-plain a number from later x all rest s spans next (λ f e. after-no-call k f (sym is ∙ e)) (λ e. after-no-return k (sym is ∙ e))
      (λ ys. ap (λ (y : TaskAct). last_after from (y ∷ ys)) is ∙ ap (λ (n : ℕ). last_after n ys) (greater from k ∙ sym most))

  pub finds-other : (a number from : ℕ) (x : LinedAct) (all : List Entered) (rest : List LinedAct) (s : Span) (spans : List Span)
      → number ≡ suc a → ((ctx : Ctx) × (x.act ≡ Raise ctx)) ⊎ (x.act ≡ Lower)
      → Contains spans s ⊎ IsAhead control t a from all (x ∷ rest) s ↔ Contains spans s ⊎ IsAhead control t number from all rest s
  finds-other a number from x all rest s spans next (inl r) =
      finds-plain a number from from x all rest s spans next (λ f e. raise-no-call r.0 f (sym r.1 ∙ e)) (λ e. raise-no-return r.0 (sym r.1 ∙ e)) (λ ys. ap (λ (y : TaskAct). last_after from (y ∷ ys)) r.1)
  finds-other a number from x all rest s spans next (inr l) =
      finds-plain a number from from x all rest s spans next (λ f e. lower-no-call f (sym l ∙ e)) (λ e. lower-no-return (sym l ∙ e)) (λ ys. ap (λ (y : TaskAct). last_after from (y ∷ ys)) l)

  -- ## before all acts, and after them

  pub start-step : (acts : List LinedAct) (s : Span) → IsSpan control t acts s ↔ IsAhead control t 0 0 [] acts s
  start-step acts s = (
    λ w. is_below w.place (suc w.place) (omega arith) w.call w.from w.to,
    λ w. elim w [
      | is_open j e k ↦ cc
      | is_below i n e c f g ↦
          let number : n ≡ suc i = omega (arith, e) in
          record { place = i; call = c; from = f; to = g ∙ ap (λ (m : ℕ). at (return_number m 0 (drop (suc i) (acts_in acts)))) number }
    ],
  )

  pub finds-first : (from : ℕ) (all : List Entered) (spans : List Span) (acts : List LinedAct) (s : Span) → from ≡ 0 → all ≡ [] → spans ≡ []
      → IsSpan control t acts s ↔ Contains spans s ⊎ IsAhead control t 0 from all acts s
  finds-first from all spans acts s first none empty =
      let step = start-step acts s in
      rw (first, none, empty) (λ w. inr (step.0 w), λ w. elim w [ inl v ↦ absurd (omega (arith, v.1)) | inr v ↦ step.1 v ])

  module _ (a from : ℕ) (entered : List Entered) (s : Span) where
    end-entered : (j : ℕ) → slice_get entered j ≡ Some (record { line = s.line; func = s.func; from = s.from }) → s.to ≡ at a → Contains (map (span_to (at a)) entered) s
    end-entered j e k =
        let entry : Entered = record { line = s.line; func = s.func; from = s.from } in
        let inside : j < length entered = slice_get_within entered j _ e in
        let there : get_or entered j entry ≡ entry = get_or_from_slice_get entered j _ _ e in
        let long : length (map (span_to (at a)) entered) ≡ length entered = length-map entered (span_to (at a)) in
        (j, omega (arith, long, inside), get_or-map (span_to (at a)) entered j entry s inside ∙ ap (span_to (at a)) there ∙ ap (λ (n : ℕ). span_to n entry) (sym k))

    end-contained : Contains (map (span_to (at a)) entered) s → IsAhead control t a from entered [] s
    end-contained w =
        let entry : Entered = record { line = s.line; func = s.func; from = s.from } in
        let long : length (map (span_to (at a)) entered) ≡ length entered = length-map entered (span_to (at a)) in
        let j : ℕ = w.0 in
        let inside : j < length entered = omega (arith, long, w.1) in
        let same : span_to (at a) (get_or entered j entry) ≡ s = sym (get_or-map (span_to (at a)) entered j entry s inside) ∙ w.2 in
        is_open j (slice_get-get_or entered j entry inside ∙ ap (λ (y : Span). Some (record { line = y.line; func = y.func; from = y.from })) same) (sym (ap (λ (y : Span). y.to) same))

    pub end-step : (spans : List Span) → Contains (spans ++ map (span_to (at a)) entered) s ↔ Contains spans s ⊎ IsAhead control t a from entered [] s
    end-step spans = (
      λ w. elim (Contains-append_cases spans (map (span_to (at a)) entered) s w) [ inl v ↦ inl v | inr v ↦ inr (end-contained v) ],
      λ w. elim w [
        | inl v ↦ Contains-append_left spans (map (span_to (at a)) entered) s v
        | inr v ↦ elim v [
          | is_open j e k ↦ Contains-append_right spans (map (span_to (at a)) entered) s (end-entered j e k)
          | is_below i n e c f g ↦ cc
        ]
      ],
    )
