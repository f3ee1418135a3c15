use Rattle.std.proofs.Common.{ℕ, arith, ap, ◌∙◌}
use Rattle.word_map.specs.declared.op.Op.TheVariants as code
use Rattle.word_map.specs.Words.{Sel}
use Rattle.word_map.specs.Ops.{Store, placed}
use Rattle.hash_pages.specs.Pages.{Page}
use Rattle.hash_pages.proofs.PageLaws.{filter_at, notrace_at, state_at, next_is, none_is_next}
use Rattle.hash_pages.proofs.writer.PageWriter.next.Goals as goal

pub returns-then-self-words-clause-store : goal.returns-then-self-words-clause-store
returns-then-self-words-clause-store c =
    next_is c.args.self.now c.args.pair.now c.self.inside.stored _ _ (ap (λ (p : Page). p.stored) c.self.view_is)
    (filter_at c.args.self.now c.args.pair.now c.self.inside.stored (omega arith)) c.word_store.ensures

pub returns-then-self-words-2-clause-store : goal.returns-then-self-words-2-clause-store
returns-then-self-words-2-clause-store c =
    next_is c.args.self.now c.args.pair.now c.self.inside.stored _ _ (ap (λ (p : Page). p.stored) c.self.view_is)
    (notrace_at c.args.self.now c.args.pair.now c.self.inside.stored _ (omega arith) (omega arith)) c.word_store-then-self-words-2.ensures

pub returns-then-self-words-3-clause-store : goal.returns-then-self-words-3-clause-store
returns-then-self-words-3-clause-store c =
    next_is c.args.self.now c.args.pair.now c.self.inside.stored _ _ (ap (λ (p : Page). p.stored) c.self.view_is)
    (state_at c.args.self.now c.args.pair.now c.self.inside.stored (omega arith))
    (ap (λ (word : ℕ). code.Store word c.self.inside.sel) c.sel.ensures
    ∙ ap (λ (p : Page). placed p.shape (Store (Sel p.user) p.sel)) c.self.view_is)

pub returns-else-self-words-3-clause-store : goal.returns-else-self-words-3-clause-store
returns-else-self-words-3-clause-store c =
    none_is_next c.args.self.now c.args.pair.now (omega (arith, ap (λ (p : Page). p.stored) c.self.view_is))
