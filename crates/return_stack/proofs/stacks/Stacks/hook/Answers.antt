use Rattle.std.proofs.Common.{sym, ◌∙◌, arith}
use Rattle.return_stack.proofs.StackOps.{unhooked_at, is_full-unhooked, stack_hooked, hooks_hooked}
use Rattle.return_stack.proofs.stacks.Stacks.hook.Goals as goal

pub returns-then-is_full-clause-full : goal.returns-then-is_full-clause-full
returns-then-is_full-clause-full c =
    let tied = c.self.invariant.tied in
    let own = unhooked_at c.self.inside _ c.len-top.result _ _ c.self.view_is tied (omega (arith, c.len-top.ensures, c.self.inside.addresses.ok.0)) c.requires c.index.ensures c.in-To.is in
    sym (is_full-unhooked c.self.inside _ _ _ c.self.view_is tied own ∙ (sym c.is_full.ensures.full ∙ c.if-is_full.true))

pub push-requires : goal.push-requires
push-requires c = rw c.if-is_full.false at c.is_full.ensures.room

pub invariant_of-self : goal.invariant_of-self
invariant_of-self c =
    let kept = c.self.invariant in
    let own = unhooked_at c.self.inside _ c.len-top.result _ _ c.self.view_is kept.tied (omega (arith, c.len-top.ensures, c.self.inside.addresses.ok.0)) c.requires c.index.ensures c.in-To.is in
    record {
      tied = hooks_hooked c.self.inside _ _ _ _ kept.tied own c.push.ensures;
      within = kept.within;
      room = kept.room;
      small = kept.small;
    }

pub returns-clause-hooked : goal.returns-clause-hooked
returns-clause-hooked c =
    let tied = c.self.invariant.tied in
    let own = unhooked_at c.self.inside _ c.len-top.result _ _ c.self.view_is tied (omega (arith, c.len-top.ensures, c.self.inside.addresses.ok.0)) c.requires c.index.ensures c.in-To.is in
    stack_hooked c.self.inside _ _ _ _ c.self.view_is tied own c.push.ensures

pub returns-clause-full : goal.returns-clause-full
returns-clause-full c =
    let tied = c.self.invariant.tied in
    let own = unhooked_at c.self.inside _ c.len-top.result _ _ c.self.view_is tied (omega (arith, c.len-top.ensures, c.self.inside.addresses.ok.0)) c.requires c.index.ensures c.in-To.is in
    sym (is_full-unhooked c.self.inside _ _ _ c.self.view_is tied own ∙ (sym c.is_full.ensures.full ∙ c.if-is_full.false))
