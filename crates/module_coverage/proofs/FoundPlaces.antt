-- Where the calls of a task's stack stand in its script: which act each of them is, and which act its return is. A call that a
-- user's act made is none of the script, and is of a function outside of the changing modules.
use Rattle.std.proofs.Common.{cond, ◌≡◌, ℕ, suc, ◌≤◌, ◌<◌, ◌⊎◌, Bool, true, false, not, ◌&&◌, List, [], ◌∷◌, drop, Some, subst, arith}
use Rattle.std.specs.Prelude.{slice_get}
use Rattle.std.specs.List.{AllByRecursion as Each}
use Rattle.ft_base.specs.declared.number.CallNo.{CallNo}
use Rattle.ft_base.specs.declared.number.FuncNo.{FuncNo}
use Rattle.ft_base.specs.declared.task.TaskAct.{TaskAct}
use Rattle.ft_base.specs.declared.task.TaskAct.TheVariants.{Call}
use Rattle.ft_base.specs.Job.{Job}
use Rattle.ft_hist.specs.Plain.{PlainTask, Frame, Phase, InBack, Leaving, InExit}
use Rattle.module_coverage.specs.Covered.{acts_of, from_command, return_number}
use Rattle.module_coverage.specs.Apart.{IsApart}
use Rattle.module_coverage.proofs.ActNumbers.{Gone, gone-later}

-- the return of a call has begun
abbrev pub leaves : Phase → Bool
leaves Leaving = true
leaves (InExit u) = true
leaves _ = false

-- the numbers of the acts by which calls return, by how many calls of the script are above them: under one more, or as they are
abbrev pub under : Bool → (ℕ → ℕ) → ℕ → ℕ
under true number k = number (suc k)
under false number k = number k

-- such numbers, where these acts are left and so many are gone
abbrev pub returns_from : ℕ → List TaskAct → ℕ → ℕ
returns_from gone left k = return_number gone k left

module _ (job : Job) (t : ℕ) where
  -- A call of this function stands at a place in the script: so many returned commands have met the waits above it, and its return is
  -- the act of this number.
  pub record IsPlaced (returned func number : ℕ) : Type 0 where
    pub place : ℕ
    pub called : FuncNo
    pub act : slice_get (acts_of job t) place ≡ Some (Call called)
    pub func_is : called.0 ≡ func
    pub from : from_command job t place ≤ returned
    pub number_is : return_number (suc place) 0 (drop (suc place) (acts_of job t)) ≡ number

  -- so it is of each call of the script; one that a user's act made is of a function outside of the changing modules
  abbrev pub OfCall : Bool → ℕ → ℕ → ℕ → Type 0
  OfCall true r func number = IsPlaced r func number
  OfCall false r func number = IsApart job func

  -- so is the call that a user's act owes
  abbrev pub Owes : Phase → Type 0
  Owes (InBack u (Some o) fresh) = IsApart job o.func
  Owes _ = Unit {0}

  -- calls none of which has begun to return
  abbrev pub Below : ℕ → (ℕ → ℕ) → List Frame → Type 0
  Below r number [] = Unit {0}
  Below r number (f ∷ below) = (leaves f.phase ≡ false) × Owes f.phase × OfCall f.scripted r f.func (number 0) × Below r (under f.scripted number) below

  -- a stack whose top call may have begun to return: the act by which it does is the last of those that are gone
  abbrev pub Top : ℕ → (ℕ → ℕ) → ℕ → List Frame → Type 0
  Top r number gone [] = Unit {0}
  Top r number gone (f ∷ below) = Owes f.phase × OfCall f.scripted r f.func (cond (leaves f.phase) gone (number 0)) × Below r (under (f.scripted && not (leaves f.phase)) number) below

  -- ## both forms

  from-top : (l s : Bool) (r func gone : ℕ) (number : ℕ → ℕ) (below : List Frame) → l ≡ false → OfCall s r func (cond l gone (number 0)) × Below r (under (s && not l) number) below
      → OfCall s r func (number 0) × Below r (under s number) below
  from-top true s r func gone number below e h = absurd cc
  from-top false true r func gone number below e h = h
  from-top false false r func gone number below e h = h

  pub to-below : (r gone : ℕ) (number : ℕ → ℕ) (f : Frame) (below : List Frame) → leaves f.phase ≡ false → Top r number gone (f ∷ below) → Below r number (f ∷ below)
  to-below r gone number f below e h = let x = from-top (leaves f.phase) f.scripted r f.func gone number below e (h.1, h.2) in (e, h.0, x.0, x.1)

  into-top : (l s : Bool) (r func gone : ℕ) (number : ℕ → ℕ) (below : List Frame) → l ≡ false → OfCall s r func (number 0) × Below r (under s number) below
      → OfCall s r func (cond l gone (number 0)) × Below r (under (s && not l) number) below
  into-top true s r func gone number below e h = absurd cc
  into-top false true r func gone number below e h = h
  into-top false false r func gone number below e h = h

  pub to-top : (r gone : ℕ) (number : ℕ → ℕ) (fs : List Frame) → Below r number fs → Top r number gone fs
  to-top r gone number [] h = tt
  to-top r gone number (f ∷ below) h = let x = into-top (leaves f.phase) f.scripted r f.func gone number below h.0 (h.2, h.3) in (h.1, x.0, x.1)

  -- ## as acts and commands go by

  under-same : (b : Bool) (number number' : ℕ → ℕ) → ((k : ℕ) → number k ≡ number' k) → (k : ℕ) → under b number k ≡ under b number' k
  under-same true number number' same k = same (suc k)
  under-same false number number' same k = same k

  pub below-same : (r : ℕ) (number number' : ℕ → ℕ) → ((k : ℕ) → number k ≡ number' k) → (fs : List Frame) → Below r number fs → Below r number' fs
  below-same r number number' same [] h = tt
  below-same r number number' same (f ∷ below) h =
      (h.0, h.1, subst (λ n. OfCall f.scripted r f.func n) (same 0) h.2, below-same r (under f.scripted number) (under f.scripted number') (under-same f.scripted number number' same) below h.3)

  of-later : (b : Bool) (r r' func number : ℕ) → r ≤ r' → OfCall b r func number → OfCall b r' func number
  of-later true r r' func number le h =
      record { place = h.place; called = h.called; act = h.act; func_is = h.func_is; from = (let x = h.from in omega (arith, x, le)); number_is = h.number_is }
  of-later false r r' func number le h = h

  below-later : (r r' : ℕ) (number : ℕ → ℕ) → r ≤ r' → (fs : List Frame) → Below r number fs → Below r' number fs
  below-later r r' number le [] h = tt
  below-later r r' number le (f ∷ below) h = (h.0, h.1, of-later f.scripted r r' f.func (number 0) le h.2, below-later r r' (under f.scripted number) le below h.3)

  top-later : (r r' gone : ℕ) (number : ℕ → ℕ) → r ≤ r' → (fs : List Frame) → Top r number gone fs → Top r' number gone fs
  top-later r r' gone number le [] h = tt
  top-later r r' gone number le (f ∷ below) h =
      (h.0, of-later f.scripted r r' f.func (cond (leaves f.phase) gone (number 0)) le h.1, below-later r r' (under (f.scripted && not (leaves f.phase)) number) le below h.2)

  -- ## a task on its plain run

  -- A task whose calls are at their places after so many returned commands.
  --   script   its acts to come are the script's, behind those that are gone
  --   calls    each call of its stack has its place, and returns by the act that the script has for it
  --   names    each is of the function that its Enter names
  pub record Going (name : CallNo → ℕ) (returned : ℕ) (s : PlainTask) : Type 0 where
    pub script : Gone (acts_of job t) s.acts s.gone returned
    pub calls : Top returned (returns_from s.gone s.acts) s.gone s.stack
    pub names : Each (λ f. f.func ≡ name f.call) s.stack

  pub going-later : (name : CallNo → ℕ) (r r' : ℕ) (s : PlainTask) → r ≤ r' → Going name r s → Going name r' s
  going-later name r r' s le h = record {
    script = gone-later (acts_of job t) s.acts s.gone r r' le h.script;
    calls = top-later r r' s.gone (returns_from s.gone s.acts) le s.stack h.calls;
    names = h.names;
  }

  -- what the law needs of the call that an item is of, after so many acts are done
  abbrev pub Claims : ℕ → ℕ → ℕ → Type 0
  Claims r passed func = IsApart job func ⊎ ((n : ℕ) × IsPlaced r func n × (passed < n))
