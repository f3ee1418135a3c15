use Rattle.std.proofs.Common.{refl}
use Rattle.patch_core.proofs.MoveLaws.{next_at, break_at, tail_at, head_at}
use Rattle.patch_core.proofs.laws.each_site_is_changed_in_order.Goals as goal

pub returns-clause-next : goal.returns-clause-next
returns-clause-next c sites k change is = next_at sites k change is _ refl

pub returns-clause-breakpoint : goal.returns-clause-breakpoint
returns-clause-breakpoint c sites k change is = break_at sites k change is _ refl

pub returns-clause-tail : goal.returns-clause-tail
returns-clause-tail c sites k change is = tail_at sites k change is _ refl

pub returns-clause-head : goal.returns-clause-head
returns-clause-head c sites k change is = head_at sites k change is _ refl
