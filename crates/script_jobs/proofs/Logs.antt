-- So the log of an accepted script tells its history: its names and pids differ, each item of a legal history of it has numbers of the job,
-- and no such history is too long; the numbers have 32 bits, as those in memory.
use Rattle.std.proofs.Common.{◌≡◌, ℕ, ◌<◌, ◌^◌, Bool, List, length, arith}
use Rattle.std.specs.List.{AllByRecursion as Each}
use Rattle.ft_base.specs.declared.item.Item.{Item}
use Rattle.ft_base.specs.Job.{Job}
use Rattle.ft_base.proofs.Small.{Each-weaker}
use Rattle.ft_hist.specs.Rules.{IsLegal}
use Rattle.history_laws.proofs.Bounded.{history-bounded}
use Rattle.word_machine.specs.Limits.{IsLimited}
use Rattle.word_machine_laws.proofs.Limited.{few-commands}
use Rattle.ft_script.specs.Script.{IsJobOf}
use Rattle.trace_views.specs.LogText.{log_text}
use Rattle.trace_lines.specs.LogItems.{IsItemOf}
use Rattle.log_reader.specs.Refused.{IsNumbered, IsShort}
use Rattle.trace_lines.proofs.LogTells.{same-text}
use Rattle.script_jobs.proofs.Texts.{accepted_limited}
use Rattle.script_jobs.proofs.Names.{accepted_named, accepted_replaced}
use Rattle.script_jobs.proofs.LegalItems.{legal-items}

-- a legal history of a limited job is no longer than a machine can count
pub short : (job : Job) (items : List Item) → IsLimited job → IsLegal job items → length items < 2 ^ 32
short job items l legal =
    let most = history-bounded job items legal in
    let c = few-commands job.ctls in
    let m = l.ctls in
    let i = l.items in
    omega (arith, most, c, m, i)

pub few_items : (text : List ℕ) (job : Job) (items : List Item) → IsJobOf text job → IsLegal job items → length items < 2 ^ 32
few_items text job items is legal = short job items (accepted_limited text job is) legal

-- what is so of each numbered item
pub each-of : (job : Job) (items : List Item) → Each (IsNumbered job) items → Each (IsItemOf job) items
each-of job items = Each-weaker (IsNumbered job) (IsItemOf job) items (λ item n. n.of_job)

pub each-short : (job : Job) (items : List Item) → Each (IsNumbered job) items → Each IsShort items
each-short job items = Each-weaker (IsNumbered job) IsShort items (λ item n. n.short)

pub items_are_numbered : (text : List ℕ) (job : Job) (items : List Item) → IsJobOf text job → IsLegal job items → Each (IsNumbered job) items
items_are_numbered text job items is legal =
    let l = accepted_limited text job is in legal-items job l.job' (accepted_replaced text job is) items legal (short job items l legal)

pub log_tells : (text : List ℕ) (job : Job) (a b : List Item) (x y : Bool) → IsJobOf text job → IsLegal job a → IsLegal job b
    → log_text job a x ≡ log_text job b y → (a ≡ b) × (x ≡ y)
log_tells text job a b x y is la lb e =
    let few = few_items text job a is la in
    let few' = few_items text job b is lb in
    same-text job (accepted_named text job is) a b x y (each-of job a (items_are_numbered text job a is la)) (each-of job b (items_are_numbered text job b is lb))
    (omega (arith, few)) (omega (arith, few')) e
