-- Tasks with one more act, and with one more task.
use Rattle.std.proofs.Common.{◌≡◌, ℕ, zero, suc, ◌+◌, ◌<◌, ◌≤◌, List, [], ◌∷◌, ◌++◌, length, sum_by, refl, ap, ◌∙◌, arith}
use Rattle.std.specs.List.{AllByRecursion as Each}
use Rattle.std.proofs.lemmas.List.{length_push, map_push}
use Rattle.std.proofs.lemmas.List.Sums.{sum_by-cons}
use Rattle.ft_base.specs.declared.task.TaskAct.{TaskAct}
use Rattle.ft_base.specs.declared.task.TaskAct.TheVariants.{Call, Ret, Raise, Lower, After}
use Rattle.ft_base.specs.Acts.{Leads}
use Rattle.history_laws.specs.Bound.{calls_in}
use Rattle.script_waits.specs.declared.script.LinedAct.{LinedAct}
use Rattle.script_waits.specs.Tasks.{LinedTask}
use Rattle.ft_script.specs.Above.{push_act}
use Rattle.ft_script.specs.Holds.{acts_of, Balanced}

-- ## acts

pub leads-more : (size size' n m : ℕ) (acts : List TaskAct) → size ≤ size' → Leads size n acts m → Leads size' n acts m
leads-more size size' n m [] le h = h
leads-more size size' n m (Call f ∷ rest) le h = (let lt = h.0 in omega arith, leads-more size size' (suc n) m rest le h.1)
leads-more size size' zero m (Ret ∷ rest) le h = h
leads-more size size' (suc n) m (Ret ∷ rest) le h = leads-more size size' n m rest le h
leads-more size size' n m (Raise c ∷ rest) le h = leads-more size size' n m rest le h
leads-more size size' n m (Lower ∷ rest) le h = leads-more size size' n m rest le h
leads-more size size' n m (After k ∷ rest) le h = leads-more size size' n m rest le h

-- one act more
pub leads-snoc : (size n m k : ℕ) (acts : List TaskAct) (a : TaskAct) → Leads size n acts m → Leads size m (a ∷ []) k → Leads size n (acts ++ a ∷ []) k
leads-snoc size n m k [] a h last = let e : n ≡ m = h in rw e last
leads-snoc size n m k (Call f ∷ rest) a h last = (h.0, leads-snoc size (suc n) m k rest a h.1 last)
leads-snoc size zero m k (Ret ∷ rest) a h last = absurd h
leads-snoc size (suc n) m k (Ret ∷ rest) a h last = leads-snoc size n m k rest a h last
leads-snoc size n m k (Raise c ∷ rest) a h last = leads-snoc size n m k rest a h last
leads-snoc size n m k (Lower ∷ rest) a h last = leads-snoc size n m k rest a h last
leads-snoc size n m k (After j ∷ rest) a h last = leads-snoc size n m k rest a h last

-- ## tasks

pub balanced-more : (size size' running : ℕ) (ps : List LinedTask) → size ≤ size' → Balanced size ps running → Balanced size' ps running
balanced-more size size' running [] le h = h
balanced-more size size' running (p ∷ []) le h = leads-more size size' 0 running (acts_of p) le h
balanced-more size size' running (p ∷ q ∷ ps) le h = (leads-more size size' 0 0 (acts_of p) le h.0, balanced-more size size' running (q ∷ ps) le h.1)

pub balanced-task : (size pid cpu : ℕ) (ps : List LinedTask) → Balanced size ps 0 → Balanced size (ps ++ record { pid = pid; cpu = cpu; acts = [] } ∷ []) 0
balanced-task size pid cpu [] h = refl
balanced-task size pid cpu (p ∷ []) h = (h, refl)
balanced-task size pid cpu (p ∷ q ∷ ps) h = (h.0, balanced-task size pid cpu (q ∷ ps) h.1)

-- a closed task in front of others
balanced-cons : (size running : ℕ) (p : LinedTask) (qs : List LinedTask) → 1 ≤ length qs → Leads size 0 (acts_of p) 0 → Balanced size qs running → Balanced size (p ∷ qs) running
balanced-cons size running p [] some first h = absurd (omega arith)
balanced-cons size running p (q ∷ qs) some first h = (first, h)

pub length-push_act : (ps : List LinedTask) (a : LinedAct) → length (push_act ps a) ≡ length ps
length-push_act [] a = refl
length-push_act (p ∷ []) a = refl
length-push_act (p ∷ q ∷ ps) a = ap suc (length-push_act (q ∷ ps) a)

pub balanced-act : (size running now : ℕ) (ps : List LinedTask) (a : LinedAct) → 1 ≤ length ps → Leads size running (a.act ∷ []) now → Balanced size ps running → Balanced size (push_act ps a) now
balanced-act size running now [] a some step h = absurd (omega arith)
balanced-act size running now (p ∷ []) a some step h = rw (map_push (λ (x : LinedAct). x.act) p.acts a) (leads-snoc size 0 running now (acts_of p) a.act h step)
balanced-act size running now (p ∷ q ∷ ps) a some step h =
    let n = length-push_act (q ∷ ps) a in
    balanced-cons size now p (push_act (q ∷ ps) a) (omega (arith, n)) h.0 (balanced-act size running now (q ∷ ps) a (omega arith) step h.1)

-- if nothing is running, each task is closed
pub balanced-each : (size : ℕ) (ps : List LinedTask) → Balanced size ps 0 → Each (λ p. Leads size 0 (acts_of p) 0) ps
balanced-each size [] h = tt
balanced-each size (p ∷ []) h = (h, tt)
balanced-each size (p ∷ q ∷ ps) h = (h.0, balanced-each size (q ∷ ps) h.1)

-- ## places

pub placed-more : (k k' : ℕ) (ps : List LinedTask) → k ≤ k' → Each (λ p. p.cpu < k) ps → Each (λ p. p.cpu < k') ps
placed-more k k' [] le h = tt
placed-more k k' (p ∷ ps) le h = (let lt = h.0 in omega arith, placed-more k k' ps le h.1)

pub placed-act : (k : ℕ) (ps : List LinedTask) (a : LinedAct) → Each (λ p. p.cpu < k) ps → Each (λ p. p.cpu < k) (push_act ps a)
placed-act k [] a h = tt
placed-act k (p ∷ []) a h = h
placed-act k (p ∷ q ∷ ps) a h = (h.0, placed-act k (q ∷ ps) a h.1)

-- ## sums over tasks

-- if one more act adds k to its task's count, it adds k to the sum
sum-act : (f : LinedTask → ℕ) (ps : List LinedTask) (a : LinedAct) (k : ℕ) → ((p : LinedTask) → f (record p { acts = p.acts ++ a ∷ [] }) ≡ f p + k) → 1 ≤ length ps → sum_by f (push_act ps a) ≡ sum_by f ps + k
sum-act f [] a k more some = absurd (omega arith)
sum-act f (p ∷ []) a k more some =
    let m = more p in
    let one = sum_by-cons f (record p { acts = p.acts ++ a ∷ [] }) [] in
    let all = sum_by-cons f p [] in
    omega (arith, m, one, all)
sum-act f (p ∷ q ∷ ps) a k more some =
    let rest = sum-act f (q ∷ ps) a k more (omega arith) in
    let one = sum_by-cons f p (push_act (q ∷ ps) a) in
    let all = sum_by-cons f p (q ∷ ps) in
    omega (arith, rest, one, all)

-- a task that counts nothing leaves the sum
pub sum-task : (f : LinedTask → ℕ) (ps : List LinedTask) (p : LinedTask) → f p ≡ 0 → sum_by f (ps ++ p ∷ []) ≡ sum_by f ps
sum-task f [] p none =
    let one = sum_by-cons f p [] in
    omega (arith, none, one)
sum-task f (q ∷ ps) p none =
    let rest = sum-task f ps p none in
    let one = sum_by-cons f q (ps ++ p ∷ []) in
    let all = sum_by-cons f q ps in
    omega (arith, rest, one, all)

calls-snoc : (acts : List TaskAct) (a : TaskAct) → calls_in (acts ++ a ∷ []) ≡ calls_in acts + calls_in (a ∷ [])
calls-snoc [] a = omega arith
calls-snoc (Call f ∷ rest) a = let more = calls-snoc rest a in omega (arith, more)
calls-snoc (Ret ∷ rest) a = calls-snoc rest a
calls-snoc (Raise c ∷ rest) a = calls-snoc rest a
calls-snoc (Lower ∷ rest) a = calls-snoc rest a
calls-snoc (After n ∷ rest) a = calls-snoc rest a

-- one more act in all
pub sum_acts-act : (ps : List LinedTask) (a : LinedAct) → 1 ≤ length ps → sum_by (λ (p : LinedTask). length p.acts) (push_act ps a) ≡ sum_by (λ (p : LinedTask). length p.acts) ps + 1
sum_acts-act ps a some = sum-act (λ (p : LinedTask). length p.acts) ps a 1 (λ p. length_push p.acts a) some

-- one more call in all, if the act is one
pub sum_calls-act : (ps : List LinedTask) (a : LinedAct) → 1 ≤ length ps
    → sum_by (λ (p : LinedTask). calls_in (acts_of p)) (push_act ps a) ≡ sum_by (λ (p : LinedTask). calls_in (acts_of p)) ps + calls_in (a.act ∷ [])
sum_calls-act ps a some =
    sum-act (λ (p : LinedTask). calls_in (acts_of p)) ps a (calls_in (a.act ∷ []))
    (λ p. ap (λ acts. calls_in acts) (map_push (λ (x : LinedAct). x.act) p.acts a) ∙ calls-snoc (acts_of p) a.act)
    some
