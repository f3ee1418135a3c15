-- An order that grows by a line, and the order of all lines.
use Rattle.std.proofs.Common.{◌≡◌, ℕ, ◌≤◌, List, [], ◌∷◌, ◌++◌, length, arith}
use Rattle.std.specs.List.{range_with_len}
use Rattle.ft_base.specs.Job.{Job}
use Rattle.word_machine_laws.specs.Led.{in_order, with_lines, with_next}
use Rattle.word_machine_laws.proofs.LedLists.{picked_all, picked_append}

pub grown : (job : Job) (order : List ℕ) (k : ℕ) → in_order job (order ++ k ∷ []) ≡ with_next job (in_order job order) k
grown job order k =
    let ctls = picked_append job.ctls order (k ∷ []) in
    let lanes = picked_append job.lines.lanes order (k ∷ []) in
    λ i. with_lines job (ctls i) (record job.lines { lanes = lanes i })

pub whole : (job : Job) → length job.lines.lanes ≤ length job.ctls → in_order job (range_with_len 0 (length job.ctls)) ≡ job
whole job few =
    let ctls = picked_all job.ctls (length job.ctls) (omega arith) in
    let lanes = picked_all job.lines.lanes (length job.ctls) few in
    λ i. with_lines job (ctls i) (record job.lines { lanes = lanes i })
