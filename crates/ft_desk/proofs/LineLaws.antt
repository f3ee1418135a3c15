-- Lines of control and their commands, for those who plan one line after the other.
use Rattle.std.proofs.Common.{cond, ◌≡◌, ◌≢◌, ℕ, zero, suc, ◌<◌, true, false, List, [], ◌∷◌, length, take, get_or, Some, refl, sym, ap, ◌∙◌}
use Rattle.std.specs.Prelude.{slice_get}
use Rattle.std.proofs.lemmas.Option.{slice_get-get_or}
use Rattle.ft_base.specs.declared.item.Answer.{Answer}
use Rattle.ft_base.specs.declared.item.Answer.TheVariants.{Accepted, Already, NotThere, Invalid, NoMatch, Busy}
use Rattle.ft_base.specs.Job.{Command, Ctl, Run, Until, commands_in}
use Rattle.ft_base.specs.Desk.{is_accepted}
use Rattle.ft_desk.specs.declared.command.Ctl.{Ctl as Line}
use Rattle.ft_desk.specs.DeskView.{DeskView, after_command, answer, carried_out, turned_down}

-- ## the lines of a job

-- the command at a line, by the commands before it
pub command-at : (xs : List Ctl) (i : ℕ) (x : Command) → slice_get xs i ≡ Some (Run x)
    → slice_get (commands_in xs) (length (commands_in (take i xs))) ≡ Some x
command-at [] i x e = absurd cc
command-at (Run y ∷ xs) zero x e = cc
command-at (Until t n ∷ xs) zero x e = absurd cc
command-at (Run y ∷ xs) (suc i) x e = command-at xs i x e
command-at (Until t n ∷ xs) (suc i) x e = command-at xs i x e

-- one more command, or none
pub count-run : (xs : List Ctl) (i : ℕ) (x : Command) → slice_get xs i ≡ Some (Run x)
    → length (commands_in (take (suc i) xs)) ≡ suc (length (commands_in (take i xs)))
count-run [] i x e = absurd cc
count-run (Run y ∷ xs) zero x e = refl
count-run (Until t n ∷ xs) zero x e = absurd cc
count-run (Run y ∷ xs) (suc i) x e = ap suc (count-run xs i x e)
count-run (Until t n ∷ xs) (suc i) x e = count-run xs i x e

pub count-until : (xs : List Ctl) (i t n : ℕ) → slice_get xs i ≡ Some (Until t n)
    → length (commands_in (take (suc i) xs)) ≡ length (commands_in (take i xs))
count-until [] i t n e = absurd cc
count-until (Run y ∷ xs) zero t n e = absurd cc
count-until (Until u m ∷ xs) zero t n e = refl
count-until (Run y ∷ xs) (suc i) t n e = ap suc (count-until xs i t n e)
count-until (Until u m ∷ xs) (suc i) t n e = count-until xs i t n e

-- ## the desk after a line

-- a line of a script, for those who go through all of them
pub line-at : (xs items : List Line) (i : ℕ) (x y : Line) → xs ≡ items → i < length xs → x ≡ get_or xs i x → x ≡ y → slice_get items i ≡ Some y
line-at xs items i x y same lt at' is =
    ap (λ (zs : List Line). slice_get zs i) (sym same) ∙ slice_get-get_or xs i x lt ∙ ap Some (sym at' ∙ is)

-- the answer tells what the desk is after a command
pub planned : (a : Answer) (s next : DeskView) (x : Command) → a ≡ answer s x → (a ≡ Accepted → next ≡ carried_out s x)
    → (a ≢ Accepted → next ≡ turned_down s) → next ≡ after_command s x
planned Accepted s next x e ok refused = ok refl ∙ ap (λ a. cond (is_accepted a) (carried_out s x) (turned_down s)) e
planned Already s next x e ok refused = refused (λ h. cc) ∙ ap (λ a. cond (is_accepted a) (carried_out s x) (turned_down s)) e
planned NotThere s next x e ok refused = refused (λ h. cc) ∙ ap (λ a. cond (is_accepted a) (carried_out s x) (turned_down s)) e
planned Invalid s next x e ok refused = refused (λ h. cc) ∙ ap (λ a. cond (is_accepted a) (carried_out s x) (turned_down s)) e
planned NoMatch s next x e ok refused = refused (λ h. cc) ∙ ap (λ a. cond (is_accepted a) (carried_out s x) (turned_down s)) e
planned (Busy f u) s next x e ok refused = refused (λ h. cc) ∙ ap (λ a. cond (is_accepted a) (carried_out s x) (turned_down s)) e

pub commands-after : (s : DeskView) (c : Command) → (after_command s c).commands ≡ suc s.commands
commands-after s c = elim (is_accepted (answer s c)) as (λ b. (cond b (carried_out s c) (turned_down s)).commands ≡ suc s.commands) [ true ↦ refl | false ↦ refl ]

pub declared-after : (s : DeskView) (c : Command) → (after_command s c).declared ≡ s.declared
declared-after s c = elim (is_accepted (answer s c)) as (λ b. (cond b (carried_out s c) (turned_down s)).declared ≡ s.declared) [ true ↦ refl | false ↦ refl ]
