-- What every item of a history tells: its kind, the call that it is of, and the user that it names.
use Rattle.std.specs.Prelude.{ℕ, Bool, false, ◌==◌, Option, Some, None}
use Rattle.ft_base.specs.declared.number.CallNo.{CallNo}
use Rattle.ft_base.specs.declared.number.UserNo.{UserNo}
use Rattle.ft_base.specs.declared.item.Item.{Item}
use Rattle.ft_base.specs.declared.item.Item.TheVariants.{Begin, Return, Enter, Back, BackEnd, Refuse, Miss, Body, Leave, Exit, ExitEnd, Ret}
use Rattle.ft_base.specs.declared.item.ItemKind.{ItemKind}
use Rattle.ft_base.specs.declared.item.ItemKind.TheVariants.{Begin as OfBegin, Return as OfReturn, Enter as OfEnter, Back as OfBack, BackEnd as OfBackEnd, Refuse as OfRefuse, Miss as OfMiss, Body as OfBody, Leave as OfLeave, Exit as OfExit, ExitEnd as OfExitEnd, Ret as OfRet}

-- its kind
abbrev pub kind_of : Item → ItemKind
kind_of (Begin k) = OfBegin
kind_of (Return k answer) = OfReturn
kind_of (Enter call ctx f caller) = OfEnter
kind_of (Back call u) = OfBack
kind_of (BackEnd call u) = OfBackEnd
kind_of (Refuse call u reason) = OfRefuse
kind_of (Miss call u) = OfMiss
kind_of (Body call g ran) = OfBody
kind_of (Leave call) = OfLeave
kind_of (Exit call u entry) = OfExit
kind_of (ExitEnd call u) = OfExitEnd
kind_of (Ret call to) = OfRet

-- the call that it is of: control's items are of none
abbrev pub call_of : Item → Option CallNo
call_of (Begin k) = None
call_of (Return k answer) = None
call_of (Enter call ctx f caller) = Some call
call_of (Back call u) = Some call
call_of (BackEnd call u) = Some call
call_of (Refuse call u reason) = Some call
call_of (Miss call u) = Some call
call_of (Body call g ran) = Some call
call_of (Leave call) = Some call
call_of (Exit call u entry) = Some call
call_of (ExitEnd call u) = Some call
call_of (Ret call to) = Some call

-- the user whose callback, refusal or miss it tells
abbrev pub user_in : Item → Option UserNo
user_in (Back call u) = Some u
user_in (BackEnd call u) = Some u
user_in (Refuse call u reason) = Some u
user_in (Miss call u) = Some u
user_in (Exit call u entry) = Some u
user_in (ExitEnd call u) = Some u
user_in _ = None

-- the call, if there is one, is of this task
abbrev pub is_task : ℕ → Option CallNo → Bool
is_task t None = false
is_task t (Some call) = call.task.0 == t
