-- A desk on which nobody was ever registered.
use Rattle.std.proofs.Common.{◌≡◌, ℕ, zero, suc, ◌<◌, ◌≤◌, ◌==◌, false, List, [], ◌∷◌, length, map, Some, None, refl, sym, ap, ap₂, ◌∙◌, arith, vec_capacity}
use Rattle.std.specs.Prelude.{replicate}
use Rattle.std.specs.List.{filter}
use Rattle.std.proofs.lemmas.List.{length-map, length-replicate}
use Rattle.ft_base.specs.declared.number.UserNo.{UserNo}
use Rattle.ft_base.specs.Marks.{Marks, empty}
use Rattle.ft_base.specs.Job.{Task, Spec as PlainSpec, no_func, no_task}
use Rattle.ft_base.specs.Desk.{Desk, UserState, unseen}
use Rattle.ft_base.proofs.Small.{false_true}
use Rattle.site_set.proofs.MarksLemmas.{length-empty}
use Rattle.user_specs.specs.declared.spec.Spec.{Spec}
use Rattle.user_specs.specs.Plain.{spec_of}
use Rattle.tramp_slots.specs.Holders.{Holders, holder_of}
use Rattle.ft_desk.specs.declared.user.User.{User}
use Rattle.ft_desk.specs.declared.desk.Desk.TheInside.{Inside}
use Rattle.ft_desk.specs.Declarations.{Declared, bare}
use Rattle.ft_desk.specs.DeskInvariant.{DeskInvariant}
use Rattle.word_map.specs.Contents.{digit}
use Rattle.ft_desk.specs.Plans.{PlainPlan, no_plan}
use Rattle.ft_desk.specs.DeskView.{opened}
use Rattle.ft_desk.specs.Users.{declared_as, spec_by, state_of, user_of}
use Rattle.ft_desk.proofs.ClaimLaws.{funcs-is}
use Rattle.ft_desk.proofs.NewLaws.{new-at}
use Rattle.ft_desk.proofs.ViewLaws.{declared_with, desk_with}
use Rattle.ft_desk.proofs.DeskViewLaws.{seen, seen-same}

none-held : (n s : ℕ) → holder_of (replicate n None) s ≡ None
none-held zero s = refl
none-held (suc n) zero = refl
none-held (suc n) (suc s) = none-held n s

module _ (n : ℕ) where
  specs-new : (specs : List Spec) → map spec_by (map (declared_as n) specs) ≡ map (λ s. bare (spec_of s)) specs
  specs-new [] = refl
  specs-new (s ∷ specs) = ap (λ zs. bare (spec_of s) ∷ zs) (specs-new specs)

  states-new : (m : ℕ) (specs : List Spec) → n ≡ m → map state_of (map (declared_as n) specs) ≡ map (λ s. unseen m) (map (λ s. bare (spec_of s)) specs)
  states-new m [] e = refl
  states-new m (s ∷ specs) e = ap₂ (λ z zs. z ∷ zs) (ap unseen e) (states-new m specs e)

  copies-new : (specs : List Spec) → map (λ (x : User). digit x.second) (map (declared_as n) specs) ≡ replicate (length (map (λ s. bare (spec_of s)) specs)) 0
  copies-new [] = refl
  copies-new (s ∷ specs) = ap (λ zs. 0 ∷ zs) (copies-new specs)

  none-listed : (specs : List Spec) → length (filter (λ (x : User). x.registered) (map (declared_as n) specs)) ≡ 0
  none-listed [] = refl
  none-listed (s ∷ specs) = none-listed specs

  no-number : (specs : List Spec) (u : ℕ) → (user_of (map (declared_as n) specs) u).reg ≡ 0
  no-number [] u = refl
  no-number (s ∷ specs) zero = refl
  no-number (s ∷ specs) (suc u) = no-number specs u

  pub new-desk : (d : Inside) (specs : List Spec) (tramps : ℕ) → d.roster.users ≡ map (declared_as n) specs → d.roster.funcs ≡ n → d.slots ≡ replicate tramps None
      → d.order.items ≡ [] → length specs ≤ vec_capacity d.order → n ≤ vec_capacity d.plan.sites → length d.pids.nopids ≡ length d.pids.pids → DeskInvariant d
  new-desk d specs tramps eu ef es eo room sites lists =
      let size : length d.roster.users ≡ length specs = ap length eu ∙ length-map specs (declared_as n) in
      record {
        slots = record {
          held = λ u s small reg slot. false_true (sym (off u (omega (arith, size, small))) ∙ reg);
          holds = λ v s h. (let no : None ≡ Some v = sym (ap (λ (hs : Holders). holder_of hs s) es ∙ none-held tramps s) ∙ h in absurd cc);
        };
        listed = record {
          once = λ u small. ap (λ (o : List UserNo). length (filter (λ v. v.0 == u) o)) eo ∙ ap digit (sym (off u (omega (arith, size, small))));
          size = ap length eo ∙ sym (ap (λ (us : List User). length (filter (λ (x : User). x.registered) us)) eu ∙ none-listed specs);
        };
        list_room = omega (arith, size, room);
        site_room = omega (arith, ef, sites);
        lists = lists;
        numbers = λ u small. (let z : (user_of d.roster.users u).reg ≡ 0 = ap (λ (us : List User). (user_of us u).reg) eu ∙ no-number specs u in omega (arith, z));
      }
    where
      off : (u : ℕ) → u < length specs → (user_of d.roster.users u).registered ≡ false
      off u small = ap (λ (us : List User). (user_of us u).registered) eu ∙ (new-at n specs u small).0

  pub new-seen : (users : List User) (specs : List Spec) (funcs tasks tramps tramps' : ℕ) (pids nopids : Marks) (order : List ℕ) (plan : PlainPlan)
      → users ≡ map (declared_as n) specs → funcs ≡ n → pids ≡ empty tasks → nopids ≡ empty tasks → tramps' ≡ tramps → order ≡ [] → plan ≡ no_plan
      → seen (declared_with users funcs (length pids) tramps') (desk_with users pids nopids 0) (map (λ (x : User). digit x.second) users) order 0 plan
      ≡ opened (record { specs = map (λ s. bare (spec_of s)) specs; funcs = n; tasks = tasks; tramps = tramps })
  new-seen users specs funcs tasks tramps tramps' pids nopids order plan eu ef ep en et eo el =
      seen-same _ _ _ _ _ _ _ _ _ _ _ _
      (declared (map spec_by users) (map (λ s. bare (spec_of s)) specs) (length pids) (ap (map spec_by) eu ∙ specs-new specs) (ap length ep ∙ length-empty tasks))
      (states (map state_of users) (map (λ s. unseen (length (replicate n no_func))) (map (λ s. bare (spec_of s)) specs)) (length (replicate tasks no_task))
      (ap (map state_of) eu ∙ states-new (length (replicate n no_func)) specs (sym (funcs-is n))) (sym (length-replicate {A = Task} tasks no_task)))
      (ap (map (λ (x : User). digit x.second)) eu ∙ copies-new specs) eo refl el
    where
      declare : List PlainSpec → ℕ → ℕ → ℕ → Declared
      declare a f t r = record { specs = a; funcs = f; tasks = t; tramps = r }

      declared : (a b : List PlainSpec) (t : ℕ) → a ≡ b → t ≡ tasks → declare a funcs t tramps' ≡ declare b n tasks tramps
      declared a b t e f = rw (e, ef, f, et) refl

      desk_of : List UserState → Marks → Marks → Desk
      desk_of a p q = record { users = a; pids = p; nopids = q; depth = 0 }

      states : (a b : List UserState) (t : ℕ) → a ≡ b → tasks ≡ t → desk_of a pids nopids ≡ desk_of b (empty t) (empty t)
      states a b t e f = rw (e, ep, en, f) refl
