-- The open calls of a task, as code has them.
use Rattle.std.specs.Prelude.{ℕ, false, List, [], ◌∷◌, Option, Some, None}
use Rattle.ft_base.specs.declared.number.CallNo.{CallNo}
use Rattle.ft_base.specs.declared.context.Ctx.{Ctx}
use Rattle.ft_base.specs.declared.context.Ctx.TheVariants.{Normal}
use Rattle.ft_base.specs.declared.item.Ran.TheVariants.{Nop}
use Rattle.ops_list.specs.declared.walker.WalkPhase.TheVariants.{Starting}
use Rattle.word_map.specs.declared.shape.Shape.{Shape}
use Rattle.task_core.specs.declared.open_call.OpenCall.{OpenCall}

-- the open calls, the latest first, and how many there can be
pub record Opens : Type 0 where
  pub calls : List OpenCall
  pub limit : ℕ

-- nothing has words
abbrev pub no_shape : Shape
no_shape = record { funcs = 0; users = 0; cpus = 0; tasks = 0; tramps = 0 }

-- a call that there is not
abbrev pub no_call : OpenCall
no_call = record {
  call = record { task = record { 0 = 0 }; n = 0 };
  ctx = Normal;
  func = record { 0 = 0 };
  scripted = false;
  ran = Nop;
  runs = record { 0 = 0 };
  walk = record { shape = no_shape; phase = Starting };
  user = record { 0 = 0 };
}

-- the latest call
abbrev pub top_of : List OpenCall → OpenCall
top_of [] = no_call
top_of (c ∷ below) = c

-- its number
abbrev pub latest : List OpenCall → Option CallNo
latest [] = None
latest (c ∷ below) = Some c.call

-- its context
abbrev pub latest_ctx : List OpenCall → Option Ctx
latest_ctx [] = None
latest_ctx (c ∷ below) = Some c.ctx
