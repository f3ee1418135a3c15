-- The lines that tell a legal history are legal.
use Rattle.std.proofs.Common.{◌≡◌, ℕ, List, [], ◌∷◌, map, IsSome, sym, ap, ◌∙◌, subst}
use Rattle.ft_base.specs.declared.number.CallNo.{CallNo}
use Rattle.ft_base.specs.declared.number.UserNo.{UserNo}
use Rattle.ft_base.specs.declared.number.FuncNo.{FuncNo}
use Rattle.ft_base.specs.declared.item.Item.{Item}
use Rattle.ft_base.specs.declared.item.Item.TheVariants.{Body, Exit}
use Rattle.ft_base.specs.declared.item.Ran.{Ran}
use Rattle.ft_base.specs.Job.{Job}
use Rattle.ft_hist.specs.Plain.{plain}
use Rattle.ft_hist.specs.Rules as strict
use Rattle.ft_hist.specs.Rules.{KeepsCommands, KeepsPlainRun, KeepsRefusals}
use Rattle.kernel_rules.specs.declared.line.ExitOrder.{ExitOrder}
use Rattle.kernel_rules.specs.declared.line.Line.{Line}
use Rattle.kernel_rules.specs.Rules.{IsLegalPast, KeepsCallbacks, MayFollow}
use Rattle.kernel_rules.specs.Recorded.{AreTold, Lacking, Marked, Told, Tells, history}
use Rattle.kernel_rules.specs.Direct as direct
use Rattle.kernel_rules.specs.Direct.{AreLegal, item_of}
use Rattle.kernel_rules.proofs.Runs.{bare-run}
use Rattle.kernel_rules.proofs.Places.{IsDrawn, drawn, thin-told}
use Rattle.kernel_rules.proofs.Parts.{commands-alike, refusals-alike}
use Rattle.kernel_rules.proofs.Removing.{bare-drawn, callbacks-down, exits-down, fetches-down, history-runs, line-runs, run-down}
use Rattle.kernel_rules.proofs.Lacks.{silent-down}

-- a part that binds neither exits nor bodies is that of the line
pub as-line : (P : Item → Type 0) → ((c : CallNo) (u : UserNo) (e : ℕ) → P (Exit c u e)) → ((c : CallNo) (g : FuncNo) (ran : Ran) → P (Body c g ran))
    → (past : List Marked) (x item : Item) → IsDrawn past x item → P item → P x
as-line P exit body past x (Exit c u place) e h = rw e (exit c u _)
as-line P exit body past x (Body c g ran) e h = rw (e.1) (body c g e.0)
as-line P exit body past x item e h = subst P (sym e) h

-- the plain run goes on by the line as by the item
pub run-line : (job : Job) (xs : List Item) (past : List Marked) (x item : Item) (t : ℕ) → IsDrawn past x item → plain job t (x ∷ xs) ≡ plain job t (item ∷ xs)
run-line job xs past x item t e = sym (bare-run job t x xs) ∙ ap (λ (i : Item). plain job t (i ∷ xs)) (bare-drawn past x item e) ∙ bare-run job t item xs

module _ (by : ExitOrder) (job : Job) where
  module _ (lines : List Line) (past : List Marked) (t : AreTold lines past) (legal : IsLegalPast by job (history past)) (direct' : AreLegal by job lines) where
    -- the items of the lines
    abbrev xs : List Item
    xs = map item_of lines

    -- each task has a run after the lines
    runs : (v : ℕ) → IsSome (plain job v xs)
    runs v = line-runs by job lines direct' v

    -- and after the history
    hruns : (v : ℕ) → IsSome (plain job v (history past))
    hruns v = history-runs by job (history past) legal v

    -- the part of silence
    pub silence : (x item : Item) → IsDrawn past x item → strict.KeepsSilence job (history past) item → direct.KeepsSilence job xs x
    silence x (Body c g ran) e h = rw (e.1) (silent-down job c by lines past t legal direct' h)
    silence x (Exit c u place) e h = rw e tt
    silence x item e h = rw e tt

    -- a line may come if its item may
    pub follow-down : (line : Line) (item : Item) → Tells past line item → MayFollow by job (history past) item → direct.MayFollow by job xs line
    follow-down line item tells m =
        let d = drawn past line item tells in
        let same = sym (thin-told lines past t) in
        record {
          run = λ v. subst (λ o. IsSome o) (sym (run-line job xs past (item_of line) item v d)) (run-down by job lines past t legal runs item m.run v);
          callbacks' = as-line (λ i. KeepsCallbacks job xs i) (λ c u e. tt) (λ c g ran. tt) past (item_of line) item d (callbacks-down by job lines past t legal runs item m.callbacks);
          silence = silence (item_of line) item d m.silence;
          refusals = as-line (λ i. KeepsRefusals job xs i) (λ c u e. tt) (λ c g ran. tt) past (item_of line) item d (refusals-alike job (history past) xs same hruns runs item m.refusals);
          exits = exits-down by job lines past t legal runs line item tells m.exits;
          fetches = fetches-down by job lines past t legal runs line item tells m.fetches;
          commands = as-line (λ i. KeepsCommands job xs i) (λ c u e. tt) (λ c g ran. tt) past (item_of line) item d (commands-alike job (history past) xs same hruns runs item m.commands);
        }

  -- all lines may
  pub lines-legal : (lines : List Line) (past : List Marked) → AreTold lines past → IsLegalPast by job (history past) → AreLegal by job lines
  unfolding AreTold IsLegalPast AreLegal
  lines-legal lines [] t l = rw t tt
  lines-legal lines (Lacking item ∷ past) t l = lines-legal lines past t.1 l.1
  lines-legal [] (Told item ∷ past) t l = absurd t
  lines-legal (line ∷ lines) (Told item ∷ past) t l =
      let d = lines-legal lines past t.1 l.1 in
      (follow-down lines past t.1 l.1 d line item t.0 l.0, d)
