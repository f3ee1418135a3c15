-- Samples of the words of the desk, each by itself: for every job, on a small desk.
use Rattle.std.proofs.Common.{◌≡◌, true, false, [], ◌∷◌, Some, None, refl}
use Rattle.ft_base.specs.declared.item.Ran.TheVariants.{Nop, List as ByList}
use Rattle.ft_base.specs.declared.item.Answer.TheVariants.{Accepted, NotThere, Busy}
use Rattle.ft_base.specs.Marks.{Marks}
use Rattle.ft_base.specs.Job.{Job, Spec, Unregister, NoPid}
use Rattle.ft_base.specs.Desk.{UserState, Desk, unseen, spec_at, matches_by, is_allowed, target, edited, busy_or, switch_answer, answer_on, registered_as, unregistered_as, changed, opening}

-- of two functions, or of two tasks, the first
abbrev first : Marks
first = true ∷ false ∷ []

abbrev neither : Marks
neither = false ∷ false ∷ []

-- nobody is there
abbrev bare : Desk
bare = record { users = []; pids = []; nopids = []; depth = 0 }

-- a registered user without a trampoline that filters the first function
abbrev filtering : UserState
filtering = record { registered = true; reg = 3; since = 5; enabled = false; filter = first; notrace = neither; slot = None }

-- ## who matches

empty_filter_matches : matches_by neither neither 1 ≡ true
empty_filter_matches = refl

filter_matches_its_own : (matches_by first neither 0 ≡ true) × (matches_by first neither 1 ≡ false)
filter_matches_its_own = (refl, refl)

notrace_wins : matches_by first first 0 ≡ false
notrace_wins = refl

target_of_its_function : (target (record bare { users = filtering ∷ [] }) 0 ≡ ByList) × (target (record bare { users = filtering ∷ [] }) 1 ≡ Nop)
target_of_its_function = (refl, refl)

-- ## who is traced

in_both_lists : is_allowed (record bare { pids = first; nopids = first }) 0 ≡ false
in_both_lists = refl

-- ## edits

appended : edited 2 first (record { append = true; remove = false; clear = false; set = false ∷ true ∷ [] }) ≡ true ∷ true ∷ []
appended = refl

replaced : edited 2 first (record { append = false; remove = false; clear = false; set = false ∷ true ∷ [] }) ≡ false ∷ true ∷ []
replaced = refl

-- taken away from the empty set, or from the set as it is
removed : edited 2 first (record { append = false; remove = true; clear = false; set = false ∷ true ∷ [] }) ≡ neither
removed = refl

removed_from_it : edited 2 first (record { append = true; remove = true; clear = false; set = false ∷ true ∷ [] }) ≡ first
removed_from_it = refl

-- ## answers and states

function_then_user : busy_or (Some 1) (Some 2) Accepted ≡ Busy (record { 0 = 1 }) (record { 0 = 2 })
function_then_user = refl

never_registered : (unseen 2).reg ≡ 0
never_registered = refl

number_stays : (unregistered_as filtering).reg ≡ 3
number_stays = refl

module _ (job : Job) where
  nobody_is_switched : switch_answer job bare 0 ≡ NotThere
  nobody_is_switched = refl

  nobody_is_unregistered : answer_on job bare (Unregister 0) ≡ NotThere
  nobody_is_unregistered = refl

  registered_is_enabled : (registered_as job bare 7 filtering).enabled ≡ true
  registered_is_enabled = refl

  nopid_list : changed job bare 7 (NoPid first) ≡ record bare { nopids = first }
  nopid_list = refl

  no_depth_at_first : (opening job).depth ≡ 0
  no_depth_at_first = refl

  second_declaration : (x y : Spec) → spec_at (record job { users = x ∷ y ∷ [] }) 1 ≡ y
  second_declaration x y = refl
