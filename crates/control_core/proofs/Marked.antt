-- What control has marked: at a mark one more item, and else the same.
use Rattle.std.proofs.Common.{cond, ◌≡◌, ℕ, zero, suc, Bool, true, false, List, [], ◌∷◌, ◌++◌, map, get_or, Option, Some, None, refl, sym, ap, ◌∙◌, append-nil}
use Rattle.std.specs.Prelude.{is_some, nat_le, slice_get}
use Rattle.std.specs.List.{range_with_len}
use Rattle.ft_base.specs.declared.item.Stamped.{Stamped}
use Rattle.ft_base.specs.declared.number.UserNo.{UserNo}
use Rattle.ft_base.specs.Desk.{Desk}
use Rattle.ft_base.specs.Job.{Job, Ctl, Run, Until}
use Rattle.filter_hash.specs.Pair.{Pair}
use Rattle.site_bytes.specs.declared.insn.SiteChange.{SiteChange}
use Rattle.word_map.specs.Contents.{high}
use Rattle.word_map.specs.Places.{words_for}
use Rattle.word_map.specs.Ops.{WordOp}
use Rattle.grace_core.specs.Waits.{Wait, wait_got, wait_op}
use Rattle.grace_core.specs.declared.waiter.WaitPhase.{WaitPhase}
use Rattle.grace_core.specs.declared.waiter.WaitPhase.TheVariants.{Asking, Waiting, Ended as WaitEnded}
use Rattle.hash_pages.specs.Pages.{Page, filter_store, notrace_store, page_next}
use Rattle.ops_list.specs.Links.{link_op}
use Rattle.ops_list.specs.declared.linker.LinkPhase.{LinkPhase}
use Rattle.ops_list.specs.declared.linker.LinkPhase.TheVariants.{Linking as LinkingUser, Heading, Unlinking, Ended as LinkEnded}
use Rattle.patch_core.specs.Moves.{Move, Sync, Done, batch, break_store, head_store, next_store, tail_store}
use Rattle.ft_desk.specs.declared.plan.TrampChange.{TrampChange}
use Rattle.ft_desk.specs.declared.plan.TrampChange.TheVariants.{Keep as KeepTramp, Set, Clear}
use Rattle.word_machine.specs.Control.{control_next}
use Rattle.control_core.specs.declared.phase.Phase.{Phase}
use Rattle.control_core.specs.declared.phase.Phase.TheVariants as phase
use Rattle.control_core.specs.Phases.{is_linked_up, is_over}
use Rattle.control_core.specs.Seated.{Seated, IsFor, control_of}
use Rattle.control_core.specs.ControlInvariant.{IsSafe}
use Rattle.control_core.specs.Steps.{depth_next, line_after, line_next, linked_after, marks_in, op_in, page_after, patch_next, pids_next, release_next, select_next, stepped, stepped_in, take_next, write_next}
use Rattle.control_core.proofs.NextLaw.{next-law}

module _ (v : ℕ) where
  -- ## operations that mark nothing

  -- of a list of them each marks nothing
  abbrev NoMarks : List WordOp → Type 0
  NoMarks xs = (i : ℕ) → marks_in (slice_get xs i) v ≡ []

  none-append : (xs ys : List WordOp) → NoMarks xs → NoMarks ys → NoMarks (xs ++ ys)
  none-append [] ys hx hy i = hy i
  none-append (x ∷ xs) ys hx hy zero = hx 0
  none-append (x ∷ xs) ys hx hy (suc i) = none-append xs ys (λ j. hx (suc j)) hy i

  none-map : (f : ℕ → WordOp) → ((k : ℕ) → marks_in (Some (f k)) v ≡ []) → (xs : List ℕ) → NoMarks (map f xs)
  none-map f h [] i = refl
  none-map f h (x ∷ xs) zero = h x
  none-map f h (x ∷ xs) (suc i) = none-map f h xs i

  none-one : (x : WordOp) → marks_in (Some x) v ≡ [] → NoMarks (x ∷ [])
  none-one x h zero = h
  none-one x h (suc i) = refl

  page-none : (p : Page) (pair : Pair) → marks_in (page_next p pair) v ≡ []
  page-none p pair =
      none-append _ _
      (none-append _ _ (none-map (filter_store p.user p.copy pair) (λ k. refl) (range_with_len 0 (words_for p.shape.funcs)))
      (none-map (notrace_store p.user p.copy pair) (λ k. refl) (range_with_len 0 (words_for p.shape.funcs))))
      (none-one _ refl) p.stored

  write-none : (d : Desk) (p : Page) (u : Option UserNo) → marks_in (write_next d p u) v ≡ []
  write-none d p None = refl
  write-none d p (Some u) = page-none p _

  take-none : (u : Option UserNo) (t : TrampChange) → marks_in (take_next u t) v ≡ []
  take-none None t = refl
  take-none (Some u) KeepTramp = refl
  take-none (Some u) (Set slot reg) = refl
  take-none (Some u) (Clear slot) = refl

  select-none : (u : Option UserNo) (x : Option ℕ) → marks_in (select_next u x) v ≡ []
  select-none None x = refl
  select-none (Some u) None = refl
  select-none (Some u) (Some x) = refl

  pids-none : (x : Option ℕ) → marks_in (pids_next x) v ≡ []
  pids-none None = refl
  pids-none (Some x) = refl

  depth-none : (x : Option ℕ) → marks_in (depth_next x) v ≡ []
  depth-none None = refl
  depth-none (Some x) = refl

  release-none : (t : TrampChange) → marks_in (release_next t) v ≡ []
  release-none KeepTramp = refl
  release-none (Set slot reg) = refl
  release-none (Clear slot) = refl

  link-none : (p : LinkPhase) → marks_in (link_op p) v ≡ []
  link-none (LinkingUser u first) = refl
  link-none (Heading u) = refl
  link-none (Unlinking before after) = refl
  link-none LinkEnded = refl

  wait-none : (w : Wait) (p : WaitPhase) → marks_in (wait_op w p) v ≡ []
  wait-none w Asking = refl
  wait-none w (Waiting n) = refl
  wait-none w WaitEnded = refl

  -- moves of a batch
  abbrev NoMoves : List Move → Type 0
  NoMoves ms = (i : ℕ) → marks_in (patch_next (get_or ms i Done)) v ≡ []

  moves-append : (xs ys : List Move) → NoMoves xs → NoMoves ys → NoMoves (xs ++ ys)
  moves-append [] ys hx hy i = hy i
  moves-append (x ∷ xs) ys hx hy zero = hx 0
  moves-append (x ∷ xs) ys hx hy (suc i) = moves-append xs ys (λ j. hx (suc j)) hy i

  moves-map : (f : SiteChange → Move) → ((k : SiteChange) → marks_in (patch_next (f k)) v ≡ []) → (xs : List SiteChange) → NoMoves (map f xs)
  moves-map f h [] i = refl
  moves-map f h (x ∷ xs) zero = h x
  moves-map f h (x ∷ xs) (suc i) = moves-map f h xs i

  moves-sync : NoMoves (Sync ∷ [])
  moves-sync zero = refl
  moves-sync (suc i) = refl

  joined-none : (a b t h : List Move) → NoMoves a → NoMoves b → NoMoves t → NoMoves h
      → NoMoves (a ++ b ++ Sync ∷ [] ++ t ++ Sync ∷ [] ++ h ++ Sync ∷ [])
  joined-none a b t h na nb nt nh =
      moves-append (a ++ b ++ Sync ∷ [] ++ t ++ Sync ∷ [] ++ h) (Sync ∷ [])
      (moves-append (a ++ b ++ Sync ∷ [] ++ t ++ Sync ∷ []) h
      (moves-append (a ++ b ++ Sync ∷ [] ++ t) (Sync ∷ [])
      (moves-append (a ++ b ++ Sync ∷ []) t
      (moves-append (a ++ b) (Sync ∷ []) (moves-append a b na nb) moves-sync) nt) moves-sync) nh) moves-sync

  batch-none : (sites : List SiteChange) → NoMoves (batch sites)
  batch-none [] i = refl
  batch-none (c ∷ cs) i =
      joined-none (map next_store (c ∷ cs)) (map break_store (c ∷ cs)) (map tail_store (c ∷ cs)) (map head_store (c ∷ cs))
      (moves-map next_store (λ k. refl) (c ∷ cs)) (moves-map break_store (λ k. refl) (c ∷ cs))
      (moves-map tail_store (λ k. refl) (c ∷ cs)) (moves-map head_store (λ k. refl) (c ∷ cs)) i

  -- ## what is marked

  module _ (c : Seated) where
    same : (o : Option WordOp) → marks_in o v ≡ [] → c.items ≡ c.items ++ marks_in o v
    same o e = sym (append-nil c.items) ∙ ap (λ (ms : List Stamped). c.items ++ ms) (sym e)

    -- of two that have the same items either has
    either : (b : Bool) (x y : Seated) → x.items ≡ c.items → y.items ≡ c.items → (cond b x y).items ≡ c.items
    either true x y e f = e
    either false x y e f = f

    line-items : (o : Option Ctl) → (line_after c o v).items ≡ c.items ++ marks_in (line_next c.commands_done o) v
    line-items None = same None refl
    line-items (Some (Until t n)) = either (nat_le n (high v)) _ c refl refl ∙ same None refl
    line-items (Some (Run x)) = refl

    items-in : (p : Phase) → (stepped_in c p v).items ≡ c.items ++ marks_in (op_in c p) v
    items-in phase.Line = line-items (slice_get c.lines c.line)
    items-in phase.Taking = same _ (take-none c.desk.plan.user c.desk.plan.tramp)
    items-in (phase.Writing page) =
        either (is_some (write_next c.desk.state (page_after page) c.desk.plan.user)) _ _ refl refl ∙ same _ (write-none c.desk.state page c.desk.plan.user)
    items-in phase.Selecting = same _ (select-none c.desk.plan.user c.desk.plan.sel)
    items-in (phase.Linking linker) = either (is_linked_up (linked_after linker).phase) _ _ refl refl ∙ same _ (link-none linker.phase)
    items-in phase.StoringPids = same _ (pids-none c.desk.plan.pids)
    items-in phase.StoringDepth = same _ (depth-none c.desk.plan.depth)
    items-in phase.Patching = same _ (batch-none c.desk.plan.sites c.made)
    items-in (phase.Syncing w) = either (is_over (wait_got w v).phase) _ _ refl refl ∙ same _ (wait-none w w.phase)
    items-in (phase.Quieting w) = either (is_over (wait_got w v).phase) _ _ refl refl ∙ same _ (wait-none w w.phase)
    items-in phase.Releasing = same _ (release-none c.desk.plan.tramp)
    items-in phase.Closing = refl

    pub items-law : (job : Job) → IsSafe c → IsFor job c → (stepped c v).items ≡ c.items ++ marks_in (control_next job (control_of c)) v
    items-law job safe is = items-in c.phase ∙ ap (λ o. c.items ++ marks_in o v) (next-law job c safe is)
