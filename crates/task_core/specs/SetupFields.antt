-- The fields of a CPU's setup, and what contracts see of them.
use Rattle.std.specs.Prelude.{map}
use Rattle.user_specs.specs.Plain.{spec_of}
use Rattle.task_core.specs.declared.setup.Setup.TheInside.{Inside}
use Rattle.task_core.specs.Setups.{PlainSetup}

-- what contracts see
abbrev pub setup_of : Inside → PlainSetup
setup_of d = record { shape = d.map; users = map spec_of d.users.items; frames = d.frames; looks = d.looks }
