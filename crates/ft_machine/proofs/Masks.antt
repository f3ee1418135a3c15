-- The mask of the tasks that are traced at the start.
use Rattle.std.proofs.Common.{◌≡◌, ℕ, ◌<◌, ◌≤◌, ◌==◌, length, sym, ap, ap₂, ◌∙◌, arith}
use Rattle.std.specs.Int.{bit_at}
use Rattle.ft_base.specs.Desk.{desk, is_allowed}
use Rattle.ft_base.specs.Job.{Job}
use Rattle.ft_base.specs.Marks.{empty}
use Rattle.word_map.specs.Contents.{mask_of}
use Rattle.pid_filter.specs.Lists.{PidLists, allows}
use Rattle.ft_desk.proofs.DeskViewLaws.{mask-is}

pub all-mask : (n m : ℕ) (lists : PidLists) → lists ≡ record { pids = empty n; nopids = empty n } → length lists.pids ≡ n
    → ((t : ℕ) → t < length lists.pids → (bit_at m t == 1) ≡ allows lists t) → ((t : ℕ) → length lists.pids ≤ t → bit_at m t ≡ 0)
    → (job : Job) → length job.tasks ≡ n → m ≡ mask_of (desk job 0) (length job.tasks)
unfolding desk
all-mask n m lists is size inside outside job e =
    let pids = ap (λ (s : PidLists). s.pids) is ∙ ap empty (sym e) in
    let nopids = ap (λ (s : PidLists). s.nopids) is ∙ ap empty (sym e) in
    mask-is (length job.tasks) m (is_allowed (desk job 0))
    (λ t lt. inside t (omega (arith, size, e, lt)) ∙ ap₂ (λ p q. allows (record { pids = p; nopids = q }) t) pids nopids)
    (λ t le. outside t (omega (arith, size, e, le)))
