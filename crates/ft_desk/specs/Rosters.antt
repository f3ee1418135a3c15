-- What contracts see of a roster.
use Rattle.std.specs.Prelude.{ℕ, List, map, if◌then◌else◌}
use Rattle.ft_base.specs.declared.item.Answer.{Answer}
use Rattle.ft_base.specs.declared.item.Answer.TheVariants.{Invalid}
use Rattle.ft_base.specs.Marks.{is_empty}
use Rattle.ft_base.specs.Job.{Job}
use Rattle.ft_base.specs.Desk.{Desk, claim}
use Rattle.filter_hash.specs.Pair.{Pair}
use Rattle.ft_desk.specs.declared.user.User.{User}
use Rattle.ft_desk.specs.Declarations.{job_of}
use Rattle.ft_desk.specs.Users.{spec_by}

-- the users, and how many functions there are
pub record Users : Type 0 where
  pub users : List User
  pub funcs : ℕ

-- a job that declares these users, and this many functions
abbrev pub job_by : Users → Job
job_by s = job_of (record { specs = map spec_by s.users; funcs = s.funcs; tasks = 0; tramps = 0 })

-- the answer to a user that would replace what these sets match: it needs a filter that is not empty
abbrev pub claim_of : Job → Desk → ℕ → Pair → Answer
claim_of job desk u pair = if is_empty pair.filter then Invalid else claim job desk u pair.filter pair.notrace
