-- What is kept of a desk beside its users' sets, before any command.
use Rattle.std.proofs.Common.{◌≡◌, ℕ, zero, suc, ◌+◌, Bool, true, false, cond, List, [], ◌∷◌, length, get_or, map, replicate, refl, sym, ap, ◌∙◌, subst, arith}
use Rattle.std.proofs.lemmas.List.{length-map}
use Rattle.std.specs.Global.{Vec}
use Rattle.pid_filter.specs.Lists.{PidLists}
use Rattle.ft_base.specs.declared.item.Answer.{Answer}
use Rattle.ft_base.specs.Desk.{Desk, changed, is_accepted, opening, unseen}
use Rattle.ft_base.specs.Job.{Command as PlainCommand, Job, Spec, funcs}
use Rattle.ft_base.specs.Marks.{empty}
use Rattle.ft_desk.specs.declared.command.Command.{Command}
use Rattle.ft_desk.specs.Commands.{command_of}
use Rattle.ft_desk.specs.Declarations.{job_of}
use Rattle.ft_desk.specs.DeskView.{DeskView, after_command, answer, carried_out, turned_down}
use Rattle.history_check.specs.declared.numbers.Numbers.{Numbers}
use Rattle.history_check.specs.DeskNumbers.{AreNumbersOf, desk_after}

zero-at : (n u : ℕ) → ◌≡◌ {A = ℕ} (get_or (replicate n 0) u 0) 0
zero-at zero u = refl
zero-at (suc n) zero = refl
zero-at (suc n) (suc u) = zero-at n u

length-zeros : (n : ℕ) → length {A = ℕ} (replicate n 0) ≡ n
length-zeros zero = refl
length-zeros (suc n) = ap suc (length-zeros n)

length-empty : (n : ℕ) → length (empty n) ≡ n
length-empty zero = refl
length-empty (suc n) = ap suc (length-empty n)

no-reg : (size : ℕ) (users : List Spec) (u : ℕ) → (get_or (map (λ (s : Spec). unseen size) users) u (unseen 0)).reg ≡ 0
no-reg size [] u = refl
no-reg size (s ∷ users) zero = refl
no-reg size (s ∷ users) (suc u) = no-reg size users u

pub opening-numbers : (job : Job) (regs : Vec ℕ) (users tasks : ℕ) (pids : PidLists) → users ≡ length job.users → tasks ≡ length job.tasks
    → regs.items ≡ replicate users 0 → pids ≡ record { pids = empty tasks; nopids = empty tasks }
    → AreNumbersOf tasks (opening job) 0 (record { regs = regs; pids = pids; depth = 0 })
opening-numbers job regs users tasks pids many some is none = record {
  tasks' = (length-empty (length job.tasks) ∙ sym some, length-empty (length job.tasks) ∙ sym some);
  size = ap length is ∙ length-zeros users ∙ many ∙ sym (length-map job.users (λ (s : Spec). unseen (funcs job)));
  regs = λ u. ap (λ xs. get_or xs u 0) is ∙ zero-at users u ∙ sym (no-reg (funcs job) job.users u);
  few = λ u. let e = ap (λ xs. get_or xs u 0) is ∙ zero-at users u in omega (arith, e);
  pids = none ∙ ap (λ n. record { pids = empty n; nopids = empty n }) some;
  depth = refl;
}

-- ## one command more

module _ (was next : DeskView) (c : PlainCommand) (a : Answer) (is : a ≡ answer was c) (then : next ≡ after_command was c) where
  state-after : next.state ≡ desk_after (job_of was.declared) was.state (suc was.commands) a c
  state-after =
      ap (λ (s : DeskView). s.state) then ∙ by (is_accepted (answer was c))
      ∙ ap (λ (b : Answer). desk_after (job_of was.declared) was.state (suc was.commands) b c) (sym is)
    where
      by : (b : Bool) → (cond b (carried_out was c) (turned_down was)).state ≡ cond b (changed (job_of was.declared) was.state (suc was.commands) c) was.state
      by true = refl
      by false = refl

  commands-after : next.commands ≡ suc was.commands
  commands-after = ap (λ (s : DeskView). s.commands) then ∙ by (is_accepted (answer was c))
    where
      by : (b : Bool) → (cond b (carried_out was c) (turned_down was)).commands ≡ suc was.commands
      by true = refl
      by false = refl

-- what is told of the desk after the command
pub numbers-after : (was next : DeskView) (tasks : ℕ) (x : Command) (a : Answer) (old new : Numbers) → was.declared.tasks ≡ tasks
    → a ≡ answer was (command_of was.declared.tasks x) → next ≡ after_command was (command_of was.declared.tasks x) → AreNumbersOf tasks was.state was.commands old
    → ((job : Job) (d : Desk) (k n m : ℕ) → AreNumbersOf m d n old → AreNumbersOf m (desk_after job d k a (command_of m x)) (n + 1) new)
    → AreNumbersOf tasks next.state next.commands new
numbers-after was next tasks x a old new same is then told noted =
    let more : was.commands + 1 ≡ next.commands = (let e = commands-after was next (command_of was.declared.tasks x) a is then in omega (arith, e)) in
    subst (λ n. AreNumbersOf tasks next.state n new) more
    (subst (λ (d : Desk). AreNumbersOf tasks d (was.commands + 1) new) (sym (state-after was next (command_of was.declared.tasks x) a is then))
    (subst (λ m. AreNumbersOf tasks (desk_after (job_of was.declared) was.state (suc was.commands) a (command_of m x)) (was.commands + 1) new) (sym same)
    (noted (job_of was.declared) was.state (suc was.commands) was.commands tasks told)))
