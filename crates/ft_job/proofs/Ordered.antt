-- A job in another order of its lines.
use Rattle.std.proofs.Common.{◌≡◌, ◌<◌, ℕ, zero, suc, ◌⊎◌, List, [], ◌∷◌, ◌++◌, ◌+◌, Bor, length, map, drop, get_or, Option, Some, None, refl, sym, ap, ◌∙◌, subst, inl, inr, arith, append_assoc}
use Rattle.std.specs.Prelude.{slice_get, option_map}
use Rattle.std.specs.List.{AllByRecursion as Each}
use Rattle.std.specs.Slice.{IsItemAt}
use Rattle.std.proofs.lemmas.List.{drop_more}
use Rattle.std.proofs.lemmas.Option.{slice_get-map, slice_get_past, slice_get_read}
use Rattle.ft_base.specs.declared.limits.TheConstants.{LANES}
use Rattle.ft_base.specs.Job.{Job, Ctl, Run, Until, commands_in}
use Rattle.ft_desk.specs.Lines.{IsLineIn}
use Rattle.ft_desk.specs.declared.command.Ctl.{Ctl as DeskCtl}
use Rattle.ft_desk.specs.Commands.{ctl_of}
use Rattle.word_machine_laws.specs.Led.{in_order}
use Rattle.word_machine_laws.specs.Orders.{before_all, picked, AreLed}
use Rattle.word_machine_laws.proofs.LedLimits.{each_picked, limited_in_order}
use Rattle.word_machine.specs.Limits.{IsLimited}
use Rattle.ft_job.specs.Parts.{Parts, task_count, declared_of, IsWithin, job_of}
use Rattle.ft_job.specs.Plans.{IsCommand, HasLanes, AreLinesPlanned}

-- ## what is picked

picked-nothing : {A : Type 0} (order : List ℕ) → picked {A = A} [] order ≡ []
picked-nothing [] = refl
picked-nothing (k ∷ ks) = picked-nothing ks

before-map : {A B : Type 0} (f : A → B) (x : Option A) (xs : List A) → before_all (option_map f x) (map f xs) ≡ map f (before_all x xs)
before-map f None xs = refl
before-map f (Some x) xs = refl

picked-map : {A B : Type 0} (f : A → B) (xs : List A) (order : List ℕ) → picked (map f xs) order ≡ map f (picked xs order)
picked-map f xs [] = refl
picked-map f xs (k ∷ ks) = rw (slice_get-map f xs k, picked-map f xs ks) (before-map f (slice_get xs k) (picked xs ks))

before-count : {A B : Type 0} (xs : List A) (ys : List B) (k : ℕ) (zs : List A) (ws : List B) → length xs ≡ length ys → length zs ≡ length ws
    → length (before_all (slice_get xs k) zs) ≡ length (before_all (slice_get ys k) ws)
before-count [] [] k zs ws e f = f
before-count [] (y ∷ ys) k zs ws e f = absurd (omega (arith, e))
before-count (x ∷ xs) [] k zs ws e f = absurd (omega (arith, e))
before-count (x ∷ xs) (y ∷ ys) zero zs ws e f = ap suc f
before-count (x ∷ xs) (y ∷ ys) (suc k) zs ws e f = before-count xs ys k zs ws (omega (arith, e)) f

picked-count : {A B : Type 0} (xs : List A) (ys : List B) (order : List ℕ) → length xs ≡ length ys → length (picked xs order) ≡ length (picked ys order)
picked-count xs ys [] e = refl
picked-count xs ys (k ∷ ks) e = before-count xs ys k (picked xs ks) (picked ys ks) e (picked-count xs ys ks e)

-- the thing at a place of a list, if there is one
at-place : {A : Type 0} (xs : List A) (k : ℕ) (found : Option (Bor A)) → IsItemAt xs k found → option_map (λ x. x.now) found ≡ slice_get xs k
at-place xs k None is = sym (slice_get_past xs k is.3)
at-place xs k (Some x) is = sym (slice_get_read xs (length xs) k x.now refl is.3.0 is.1)

-- ## picking, one number after the other

module _ (order : List ℕ) (i : ℕ) (lt : i < length order) where
  abbrev number : ℕ
  number = get_or order i 0

  to-come : drop i order ≡ number ∷ drop (i + 1) order
  to-come = drop_more order i 0 lt

  -- there is one number less to come
  pub fewer : length (drop i order) ≡ suc (length (drop (i + 1) order))
  fewer = ap (λ (ks : List ℕ). length ks) to-come

  module _ {A : Type 0} (xs made : List A) (so_far : made ++ picked xs (drop i order) ≡ picked xs order) where
    next : made ++ before_all (slice_get xs number) (picked xs (drop (i + 1) order)) ≡ picked xs order
    next = ap (λ (ks : List ℕ). made ++ picked xs ks) (sym to-come) ∙ so_far

    -- the thing of this number is picked, or there is none
    pub picked-one : (found : Option (Bor A)) (x : Bor A) (y : A) → IsItemAt xs number found → found ≡ Some x → y ≡ x.now
        → (made ++ y ∷ []) ++ picked xs (drop (i + 1) order) ≡ picked xs order
    picked-one found x y is some same =
        let there : Some y ≡ slice_get xs number = ap (λ z. Some z) same ∙ ap (λ (o : Option (Bor A)). option_map (λ z. z.now) o) (sym some) ∙ at-place xs number found is in
        append_assoc made (y ∷ []) (picked xs (drop (i + 1) order))
        ∙ ap (λ (z : Option A). made ++ before_all z (picked xs (drop (i + 1) order))) there ∙ next

    pub picked-no : (found : Option (Bor A)) → IsItemAt xs number found → found ≡ None → made ++ picked xs (drop (i + 1) order) ≡ picked xs order
    picked-no found is none =
        let absent : None ≡ slice_get xs number = ap (λ (o : Option (Bor A)). option_map (λ z. z.now) o) (sym none) ∙ at-place xs number found is in
        ap (λ (z : Option A). made ++ before_all z (picked xs (drop (i + 1) order))) absent ∙ next

-- ## lanes

-- without waits each line is a command
pub all-commands : (ctls : List Ctl) → Each IsCommand ctls → length (commands_in ctls) ≡ length ctls
all-commands [] h = refl
all-commands (Run c ∷ rest) h = ap suc (all-commands rest h.1)
all-commands (Until t n ∷ rest) h = absurd h.0

module _ (job : Job) (order : List ℕ) where
  lanes-planned : (job.lines.lanes ≡ []) ⊎ HasLanes job → (picked job.lines.lanes order ≡ []) ⊎ HasLanes (in_order job order)
  lanes-planned (inl none) = inl (ap (λ (lanes : List ℕ). picked lanes order) none ∙ picked-nothing order)
  lanes-planned (inr has) = inr (record {
    commands' = each_picked IsCommand job.ctls order has.commands';
    each = picked-count job.lines.lanes job.ctls order (has.each ∙ all-commands job.ctls has.commands')
        ∙ sym (all-commands (picked job.ctls order) (each_picked IsCommand job.ctls order has.commands'));
    numbers = each_picked (λ lane. lane < LANES) job.lines.lanes order has.numbers;
  })

  planned-in-order : AreLinesPlanned job → AreLinesPlanned (in_order job order)
  planned-in-order planned = record { lanes = lanes-planned planned.lanes; absent = planned.absent; modules = planned.modules }

-- ## parts

-- the parts with their lines and lanes in this order
abbrev ordered : Parts → List ℕ → Parts
ordered p order = record p { ctls = picked p.ctls order; lines = record p.lines { lanes = picked p.lines.lanes order } }

module _ (p : Parts) (order : List ℕ) where
  -- they make the job in that order
  ordered-is : job_of (ordered p order) ≡ in_order (job_of p) order
  unfolding job_of
  ordered-is = ap (λ (ctls : List Ctl). record (job_of (ordered p order)) { ctls = ctls }) (sym (picked-map (ctl_of (task_count p.cpus)) p.ctls order))

  ordered-within : IsWithin p → AreLed (length (job_of p).ctls) order → IsWithin (ordered p order)
  unfolding job_of
  ordered-within w led = record {
    numbered = w.numbered;
    limited = subst (λ (j : Job). IsLimited j) (sym ordered-is) (limited_in_order (job_of p) order w.limited led);
    lines = each_picked (IsLineIn (declared_of p)) p.ctls order w.lines;
    cpus = w.cpus;
    quanta = w.quanta;
    planned = subst (λ (j : Job). AreLinesPlanned j) (sym ordered-is) (planned-in-order (job_of p) order w.planned);
    rings = record { some = w.rings.some; ring = w.rings.ring; few = w.rings.few; triggers = w.rings.triggers };
  }

-- parts whose lines and lanes were picked
module _ (p : Parts) (order : List ℕ) (job : Job) (e : job_of p ≡ job) (ctls : List DeskCtl) (lanes : List ℕ)
    (lines : ctls ≡ picked p.ctls order) (in_lanes : lanes ≡ picked p.lines.lanes order) where
  abbrev made : Parts
  made = record p { ctls = ctls; lines = record p.lines { lanes = lanes } }

  made-are : made ≡ ordered p order
  made-are = λ i. record p { ctls = lines i; lines = record p.lines { lanes = in_lanes i } }

  pub made-within : IsWithin p → AreLed (length job.ctls) order → IsWithin made
  made-within w led = subst IsWithin (sym made-are) (ordered-within p order w (subst (λ (j : Job). AreLed (length j.ctls) order) (sym e) led))

  pub made-is : job_of made ≡ in_order job order
  made-is = ap job_of made-are ∙ ordered-is p order ∙ ap (λ (j : Job). in_order j order) e
