-- What a CPU looks up, as contracts see it.
use Rattle.std.specs.Prelude.{ℕ, Bool, not, ◌&&◌, List, get_or}
use Rattle.ft_base.specs.Job.{Job, Spec}
use Rattle.ft_base.specs.Desk.{plain_spec}
use Rattle.ft_base.specs.Kinds.{is_function}
use Rattle.ft_base.specs.Versions.{has_looks}
use Rattle.word_map.specs.declared.shape.Shape.{Shape}
use Rattle.word_map.specs.Shapes.{shape_of}

-- the shape of the words, the users, how many frames each task's shadow stack has, and whether the version has looks
pub record PlainSetup : Type 0 where
  pub shape : Shape
  pub users : List Spec
  pub frames : ℕ
  pub looks : Bool

-- what the script declares of a user
abbrev pub declared_in : PlainSetup → ℕ → Spec
declared_in s u = get_or s.users u plain_spec

-- a user is asked whether it is on
abbrev pub asks : PlainSetup → ℕ → Bool
asks s u = not (s.looks && is_function (declared_in s u).kind)

-- the setup of a job
abbrev pub setup_in : Job → PlainSetup
setup_in job = record { shape = shape_of job; users = job.users; frames = job.frames; looks = has_looks job.version }
