-- What an accepted command stores, by the desk before it and the desk after it.
use Rattle.std.specs.Prelude.{ℕ, Bool, true, false, ◌==◌, List, [], ◌∷◌, get_or, set, Option, Some, None, if◌then◌else◌}
use Rattle.ft_base.specs.declared.number.UserNo.{UserNo}
use Rattle.ft_base.specs.Job.{Command, Register, Unregister, Filter, Notrace, Pid, NoPid, Enable, Disable, MaxDepth}
use Rattle.ft_base.specs.Desk.{Desk, UserState, user_at}
use Rattle.site_bytes.specs.declared.insn.SiteChange.{SiteChange}
use Rattle.ft_desk.specs.declared.plan.Plan.{Plan}
use Rattle.ft_desk.specs.declared.plan.TrampChange.{TrampChange}
use Rattle.ft_desk.specs.declared.plan.TrampChange.TheVariants.{Keep as KeepTramp, Set, Clear}
use Rattle.ft_desk.specs.declared.plan.ListChange.{ListChange}
use Rattle.ft_desk.specs.declared.plan.ListChange.TheVariants.{Keep as KeepList, Push, Unlink}
use Rattle.word_map.specs.Instructions.{insn_at}
use Rattle.word_map.specs.Contents.{sel_of, other_copy, mask_of}
use Rattle.ft_desk.specs.Sites.{changed_sites}

-- a plan, with its sites as a list
pub record PlainPlan : Type 0 where
  pub user : Option UserNo
  pub pair : Bool
  pub sel : Option ℕ
  pub tramp : TrampChange
  pub list : ListChange
  pub pids : Option ℕ
  pub depth : Option ℕ
  pub sites : List SiteChange
  pub quiet : Bool

-- the plan of a `Plan`
abbrev pub plain_plan : Plan → PlainPlan
plain_plan p = record {
  user = p.user;
  pair = p.pair;
  sel = p.sel;
  tramp = p.tramp;
  list = p.list;
  pids = p.pids;
  depth = p.depth;
  sites = p.sites.items;
  quiet = p.quiet;
}

-- nothing is stored
abbrev pub no_plan : PlainPlan
no_plan = record {
  user = None;
  pair = false;
  sel = None;
  tramp = KeepTramp;
  list = KeepList;
  pids = None;
  depth = None;
  sites = [];
  quiet = false;
}

-- the number of a user as its type has it
abbrev pub user_no : ℕ → UserNo
user_no u = record { 0 = u }

-- ## trampolines

-- a user with this registration number takes the slot that it has got, if it got one
abbrev pub taken_by : Option ℕ → ℕ → TrampChange → TrampChange
taken_by None reg otherwise = otherwise
taken_by (Some slot) reg otherwise = Set slot reg

-- the user takes the slot that it has got
abbrev pub taken : UserState → TrampChange
taken s = taken_by s.slot s.reg KeepTramp

-- the slot that a user had is free, if it had one
abbrev pub given_by : Option ℕ → TrampChange → TrampChange
given_by None otherwise = otherwise
given_by (Some slot) otherwise = Clear slot

-- the user gives back the slot that it had
abbrev pub given_back : UserState → TrampChange
given_back s = given_by s.slot KeepTramp

-- ## the list of registered users, the latest first

-- the first of the list
abbrev pub first_of : List ℕ → Option UserNo
first_of [] = None
first_of (v ∷ vs) = Some (user_no v)

-- the user after this one
abbrev pub user_after : ℕ → List ℕ → Option UserNo
user_after u [] = None
user_after u (v ∷ vs) = if v == u then first_of vs else user_after u vs

-- the user before this one, with one that is before the list
abbrev pub user_before : Option UserNo → ℕ → List ℕ → Option UserNo
user_before before u [] = before
user_before before u (v ∷ vs) = if v == u then before else user_before (Some (user_no v)) u vs

-- the user is taken out
abbrev pub unlinked : ℕ → List ℕ → ListChange
unlinked u order = Unlink (user_before None u order) (user_after u order)

-- ## plans

-- the sites of this many functions that change between two desks
abbrev pub sites_between : Desk → Desk → ℕ → List SiteChange
sites_between old new funcs = changed_sites (insn_at old) (insn_at new) 0 funcs

-- what a change of a user's sets stores: a copy of them, and then that it is in use
abbrev pub edit_plan : Desk → Desk → ℕ → ℕ → ℕ → Bool → PlainPlan
edit_plan old new funcs u copy true = record no_plan {
  user = Some (user_no u);
  pair = true;
  sel = Some (sel_of (user_at new u) (other_copy copy));
  sites = sites_between old new funcs;
  quiet = true;
}
edit_plan old new funcs u copy false = no_plan

-- The plan of a command, by the desk before it and the desk after it, the numbers of functions and tasks, which copy of its user's
-- sets is in use, and the registered users, the latest first. An edit of a user that is not registered stores nothing
abbrev pub plan_by : Desk → Desk → ℕ → ℕ → (ℕ → ℕ) → List ℕ → Command → PlainPlan
plan_by old new funcs tasks copies order (Register u) = record no_plan {
  user = Some (user_no u);
  pair = true;
  sel = Some (sel_of (user_at new u) (other_copy (copies u)));
  tramp = taken (user_at new u);
  list = Push (first_of order);
  sites = sites_between old new funcs;
}
plan_by old new funcs tasks copies order (Unregister u) = record no_plan {
  user = Some (user_no u);
  sel = Some (sel_of (user_at new u) (copies u));
  tramp = given_back (user_at old u);
  list = unlinked u order;
  sites = sites_between old new funcs;
  quiet = true;
}
plan_by old new funcs tasks copies order (Filter u e) = edit_plan old new funcs u (copies u) (user_at old u).registered
plan_by old new funcs tasks copies order (Notrace u e) = edit_plan old new funcs u (copies u) (user_at old u).registered
plan_by old new funcs tasks copies order (Pid pids) = record no_plan { pids = Some (mask_of new tasks); quiet = true }
plan_by old new funcs tasks copies order (NoPid nopids) = record no_plan { pids = Some (mask_of new tasks); quiet = true }
plan_by old new funcs tasks copies order (Enable u) = record no_plan { user = Some (user_no u); sel = Some (sel_of (user_at new u) (copies u)) }
plan_by old new funcs tasks copies order (Disable u) =
    record no_plan { user = Some (user_no u); sel = Some (sel_of (user_at new u) (copies u)); quiet = true }
plan_by old new funcs tasks copies order (MaxDepth depth) = record no_plan { depth = Some new.depth; quiet = true }

-- ## which copies are in use

-- the copies with that of one user changed
abbrev pub turned : List ℕ → ℕ → List ℕ
turned copies u = set copies u (other_copy (get_or copies u 0))

-- a user's sets are written into the other copy at a registration, and at an edit if it is registered
abbrev pub copies_after : Desk → List ℕ → Command → List ℕ
copies_after desk copies (Register u) = turned copies u
copies_after desk copies (Filter u e) = if (user_at desk u).registered then turned copies u else copies
copies_after desk copies (Notrace u e) = if (user_at desk u).registered then turned copies u else copies
copies_after desk copies _ = copies
