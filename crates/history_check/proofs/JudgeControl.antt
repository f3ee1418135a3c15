-- What a judge says of control's items and waits.
use Rattle.std.proofs.Common.{◌≡◌, ℕ, zero, suc, ◌+◌, ◌<◌, ◌≤◌, Bool, true, false, List, [], ◌∷◌, ◌++◌, length, drop, get_or, Option, Some, None, refl, sym, ap, ◌∙◌, subst, arith}
use Rattle.std.specs.Prelude.{IsTrue, ◌↔◌, option_map, slice_get}
use Rattle.std.specs.List.{AllByRecursion as Each}
use Rattle.std.proofs.lemmas.List.{get_or_past, drop_more}
use Rattle.ft_base.specs.declared.item.Answer.{Answer}
use Rattle.ft_base.specs.declared.item.Item.{Item}
use Rattle.ft_base.specs.declared.number.TaskNo.{TaskNo}
use Rattle.ft_base.specs.Job.{Job, Command, Ctl as PlainCtl, Run as PlainRun, Until as PlainUntil, commands, no_task, waits_before}
use Rattle.ft_base.specs.Desk.{answer_at}
use Rattle.ft_desk.specs.declared.command.Command.{Command as Code}
use Rattle.ft_desk.specs.declared.command.Ctl.{Ctl}
use Rattle.ft_desk.specs.declared.command.Ctl.TheVariants.{Run, Until}
use Rattle.ft_desk.specs.Lines.{lines_of}
use Rattle.ft_hist.specs.Past.{begun, done}
use Rattle.ft_hist.specs.Plain.{at_start}
use Rattle.ft_hist.specs.Rules.{HasWaited, MayBegin, acts_passed, IsAnswered}
use Rattle.history_check.specs.declared.past.Past.{Past}
use Rattle.history_check.specs.declared.task_past.TaskPast.{TaskPast}
use Rattle.history_check.specs.JudgePast.{IsMet, IsPast, lines_after, waits_passed}
use Rattle.history_check.specs.TakenOff.{answer_of}
use Rattle.history_check.proofs.FollowPast.{get-none}

-- ## lists

each-append : {A : Type 0} (P : A → Type 0) (xs ys : List A) → Each P xs → Each P ys → Each P (xs ++ ys)
each-append P [] ys a b = b
each-append P (x ∷ xs) ys a b = (a.0, each-append P xs ys a.1 b)

each-back : {A : Type 0} (P : A → Type 0) (xs ys : List A) → Each P (xs ++ ys) → Each P ys
each-back P [] ys a = a
each-back P (x ∷ xs) ys a = each-back P xs ys a.1

-- ## waits

-- the waits before a command are those before the one before it, and those between the two
waits-split : (n : ℕ) (ctls : List PlainCtl) → waits_before n ctls ≡ waits_passed n ctls ++ waits_before 0 (lines_after n ctls)
unfolding lines_after
waits-split zero ctls = refl
waits-split (suc n) [] = refl
waits-split (suc n) (PlainUntil t acts ∷ rest) = ap (λ (ws : List (ℕ × ℕ)). (t, acts) ∷ ws) (waits-split (suc n) rest)
waits-split (suc zero) (PlainRun c ∷ rest) = refl
waits-split (suc (suc n)) (PlainRun c ∷ rest) = waits-split (suc n) rest

module _ (job : Job) (items : List Item) where
  -- the waits at the head of these lines are met exactly if all before the next command are
  abbrev pub Decides : List Ctl → Type 0
  Decides lines = Each (IsMet job items) (waits_before 0 (lines_of (length job.tasks) lines)) ↔ HasWaited job items

  pub all-lines : (p : Past) → IsPast job items p → Decides p.lines.now
  all-lines p is =
      let old = waits_passed (begun items) job.ctls in
      let at = waits-split (begun items) job.ctls ∙ ap (λ (ls : List PlainCtl). old ++ waits_before 0 ls) (sym is.lines) in
      let head = waits_before 0 (lines_of (length job.tasks) p.lines.now) in (
        λ met. subst (Each (IsMet job items)) (sym at) (each-append (IsMet job items) old head is.waited met),
        λ has. each-back (IsMet job items) old head (subst (Each (IsMet job items)) at has),
      )

  module _ (lines : List Ctl) (i : ℕ) (line : Ctl) (lt : i < length lines) (at : line ≡ get_or lines i line) (so : Decides (drop i lines)) where
    here : (next : Ctl) → line ≡ next → drop i lines ≡ next ∷ drop (i + 1) lines
    here next is = drop_more lines i line lt ∙ ap (λ (x : Ctl). x ∷ drop (i + 1) lines) (sym at ∙ is)

    at-next : (next : Ctl) → line ≡ next → Decides (next ∷ drop (i + 1) lines)
    at-next next is = subst Decides (here next is) so

    -- a wait that is met may be left out
    pub wait-met : (t : TaskNo) (acts : ℕ) → line ≡ Until t acts → IsMet job items (t.0, acts) → Decides (drop (i + 1) lines)
    wait-met t acts is met =
        let both = at-next (Until t acts) is in
        (λ rest. both.0 (met, rest), λ has. (both.1 has).1)

    -- one that isn't tells against it
    pub wait-not : (t : TaskNo) (acts : ℕ) → line ≡ Until t acts → (IsMet job items (t.0, acts) → ⊥) → HasWaited job items → ⊥
    wait-not t acts is unmet has = unmet ((at-next (Until t acts) is).1 has).0

    -- at a command there is no more to wait for
    pub at-command : (c : Code) → line ≡ Run c → HasWaited job items
    at-command c is = (at-next (Run c) is).0 tt

  -- nor at the end
  pub no-line : (lines : List Ctl) (i : ℕ) → drop i lines ≡ [] → Decides (drop i lines) → HasWaited job items
  no-line lines i none so = (subst Decides none so).0 tt

  -- a task of the job
  pub met-there : (p : Past) → IsPast job items p → (t : TaskNo) (x : TaskPast) → Some x ≡ slice_get p.tasks.items t.0 → (n : ℕ) (b : Bool)
      → (IsTrue b ↔ (n ≤ acts_passed x.run)) → IsTrue b ↔ IsMet job items (t.0, n)
  met-there p is t x at n b tells = rw ((is.each t.0 x (sym at)).run) tells

  -- and one that it doesn't have, which has no acts
  none-passed : (t : ℕ) → length job.tasks ≤ t → acts_passed (at_start job t) ≡ 0
  none-passed t past = rw (get_or_past job.tasks t no_task past) refl

  pub met-past : (p : Past) → IsPast job items p → (t : TaskNo) → None ≡ slice_get p.tasks.items t.0 → (n : ℕ) (b : Bool)
      → (IsTrue b ↔ (n ≡ 0)) → IsTrue b ↔ IsMet job items (t.0, n)
  met-past p is t at n b tells =
      let size = is.size in
      let out = get-none p.tasks.items t.0 (sym at) in
      let past : length job.tasks ≤ t.0 = omega (arith, size, out) in
      let zero' = none-passed t.0 past in
      rw (is.others t.0 past) (λ h. (let e = tells.0 h in omega (arith, e)), λ le. tells.1 (omega (arith, le, zero')))

-- ## commands

module _ (job : Job) (items : List Item) (p : Past) (is : IsPast job items p) where
  -- the next command may begin
  abbrev pub Begins : ℕ → ℕ → Type 0
  Begins k n = (k ≡ p.begun + 1) × (p.begun ≡ p.done) × (p.begun < n)

  pub may-is : (k n : ℕ) (r : Bool) → n ≡ length (commands job) → (r ≡ true → Begins k n) → (Begins k n → r ≡ true) → IsTrue r ↔ MayBegin job items k
  may-is k n r all told tells =
      let begun' = is.begun' in
      let done' = is.done' in (
        λ passes. (let (number, follows, stands) = told passes in
            record { number = omega (arith, number, begun'); follows = omega (arith, follows, begun', done'); stands = omega (arith, stands, begun', all) }),
        λ m. (let number = m.number in let follows = m.follows in let stands = m.stands in
            tells (omega (arith, number, begun'), omega (arith, follows, begun', done'), omega (arith, stands, begun', all))),
      )

  -- the command under way may return with this answer
  abbrev pub Returns : ℕ → Option Answer → Answer → Type 0
  Returns k a answer = (k ≡ p.done + 1) × (p.begun ≡ k) × (a ≡ Some answer)

  pub answered-is : (k : ℕ) (a : Option Answer) (answer : Answer) (r : Bool) → a ≡ answer_of job k → (r ≡ true → Returns k a answer) → (Returns k a answer → r ≡ true)
      → IsTrue r ↔ IsAnswered job items k answer
  answered-is k a answer r of told tells =
      let begun' = is.begun' in
      let done' = is.done' in
      let d = done items in (
        λ passes. (let (number, follows, answers) = told passes in
            let here : k ≡ suc d = omega (arith, number, done') in
            record {
              number = here;
              follows = omega (arith, follows, here, begun');
              command = there (slice_get (commands job) d) refl (sym (ap (answer_of job) here) ∙ sym of ∙ answers);
            }),
        λ m. (let number = m.number in let follows = m.follows in let (c, at, same) = m.command in
            tells (omega (arith, number, done'), omega (arith, number, follows, begun'), of ∙ ap (answer_of job) number ∙ ap (option_map (answer_at job d)) at ∙ ap Some (sym same))),
      )
    where
      there : (o : Option Command) → slice_get (commands job) (done items) ≡ o → option_map (answer_at job (done items)) o ≡ Some answer
          → (c : Command) × (slice_get (commands job) (done items) ≡ Some c) × (answer ≡ answer_at job (done items) c)
      there None at e = absurd cc
      there (Some c) at e = (c, at, cc)

  module _ (k : ℕ) (answer : Answer) where
    pub answered-there : k ≡ p.done + 1 → p.begun ≡ k → (due : Answer) → Some due ≡ answer_of job k → (r : Bool) → (r ≡ true → due ≡ answer) → (due ≡ answer → r ≡ true)
        → IsTrue r ↔ IsAnswered job items k answer
    answered-there number follows due of r told tells =
        answered-is k (Some due) answer r of (λ h. (number, follows, ap Some (told h))) (λ w. tells (let h = w.2 in cc))

    pub answered-none : None ≡ answer_of job k → IsTrue false ↔ IsAnswered job items k answer
    answered-none of = answered-is k None answer false of (λ h. absurd cc) (λ w. let h = w.2 in cc)
