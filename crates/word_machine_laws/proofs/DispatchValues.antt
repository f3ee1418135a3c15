-- Each value that a dispatch loads fits its step: the bytes of an instruction, a trampoline's user, a user that was not visited.
use Rattle.std.proofs.Common.{◌≡◌, ◌⊎◌, ℕ, zero, suc, ◌+◌, ◌<◌, ◌≤◌, true, false, ◌||◌, List, [], ◌∷◌, length, inl, inr, refl, sym, subst, arith, eqb-true}
use Rattle.std.specs.Prelude.{◌==◌}
use Rattle.std.specs.List.{list_any, AllByRecursion as Each}
use Rattle.ft_base.specs.declared.item.Ran.TheVariants.{List as ByList}
use Rattle.ft_base.specs.declared.item.Item.{Item}
use Rattle.ft_base.specs.Job.{Job, funcs}
use Rattle.ft_base.specs.Same.{same_call}
use Rattle.ft_base.proofs.Small.{Each-filter}
use Rattle.ft_hist.specs.Past.{begun, all_visits, visits, Visit}
use Rattle.ft_hist.specs.Rules.{IsLegalPast, IsUnvisited}
use Rattle.word_map.specs.Contents.{tramp_word}
use Rattle.word_map.specs.Instructions.{head_of, tail_of}
use Rattle.word_machine.specs.Commands.{insn, effect}
use Rattle.word_machine.specs.Task.{OpenCall, GotHead, GotBreak, InTramp, AtFirst, AtLink, walks_to}
use Rattle.word_machine.specs.Progress.{quiet_reached}
use Rattle.word_machine.specs.Sites.{stage, FetchAt, SiteAt, SitesInPatching}
use Rattle.word_machine.specs.UserList.{since_of, list_desk, UserList}
use Rattle.word_machine.specs.Trampolines.{TrampolinesHeld}
use Rattle.word_machine.specs.Verdicts.{Here, Dispatches, BeforeVisit}
use Rattle.word_machine.specs.Rule.{Counts, IsWordJob}
use Rattle.word_machine_laws.proofs.Visiting.{told, walk-since}
use Rattle.word_machine_laws.proofs.DeskNumbers.{registered-inside}
use Rattle.word_machine_laws.proofs.LoadFetch.{breaks}
use Rattle.word_machine_laws.proofs.LoadList.{first_kept, link_kept}
use Rattle.word_machine_laws.proofs.OwnWord.{own-word}
use Rattle.word_machine_laws.proofs.DeskSlots.{insn-small, since-inside}

-- nobody who was visited is the one who comes next
none_visited : (u : ℕ) (at_now : ℕ → ℕ) (ms : List Visit) → Each (λ m. m.since ≤ at_now m.user) ms → Each (λ m. at_now u < m.since) ms
    → list_any (λ m. m.user == u) ms ≡ false
none_visited u at_now [] t b = refl
none_visited u at_now (m ∷ ms) t b =
    elim (m.user == u) as (λ e. (m.user == u) ≡ e → (e || list_any (λ m. m.user == u) ms) ≡ false) [
      | true ↦ λ e. absurd (let le : m.since ≤ at_now u = subst (λ v. m.since ≤ at_now v) (eqb-true m.user u e) t.0 in let lt = b.0 in omega (arith, le, lt))
      | false ↦ λ e. none_visited u at_now ms t.1 b.1
    ] refl

module _ (job : Job) (ok : IsWordJob job) (h : Here) (past : List Item) (clock : ℕ) (counts : Counts h.d h.p clock past) (legal : IsLegalPast job past)
    (ack q : ℕ) (c : OpenCall) (below : List OpenCall) where
  -- ## the fetch

  module _ (wanted : ℕ) (head tail next : ℕ → ℕ) (sites : SitesInPatching job h.d h.p h.base h.request wanted head tail next)
      (inside : c.func < funcs job) where
    -- both loads of a fetch are of one instruction, the old one or the new one
    pub tail_fits : (byte : ℕ) → Dispatches job h past ack q c below (GotHead byte)
        → (i : ℕ) × ((i ≡ insn job h.d c.func) ⊎ ((8 ≤ stage job h.d h.p c.func) × (i ≡ insn job (suc h.d) c.func))) × (byte ≡ head_of i)
        × (tail c.func ≡ tail_of c.func i) × (i < 2 + job.tramps)
    tail_fits byte x = by x.at.1 (sites.sites c.func inside)
      where
        n : ℕ
        n = stage job h.d h.p c.func

        by : FetchAt (stage job h.d h.p c.func) (insn job h.d c.func) (insn job (suc h.d) c.func) h.base ack (GotHead byte)
            → SiteAt (stage job h.d h.p c.func) c.func (insn job h.d c.func) (insn job (suc h.d) c.func) (head c.func) (tail c.func) (next c.func)
            → (i : ℕ) × ((i ≡ insn job h.d c.func) ⊎ ((8 ≤ stage job h.d h.p c.func) × (i ≡ insn job (suc h.d) c.func))) × (byte ≡ head_of i)
            × (tail c.func ≡ tail_of c.func i) × (i < 2 + job.tramps)
        by (inl y) s =
            let low : stage job h.d h.p c.func < 5 = elim y.1 [ inl z ↦ (omega (arith, z)) | inr z ↦ (let w = z.0 in omega (arith, w)) ] in
            (insn job h.d c.func, inl refl, y.0, s.tail_old low, insn-small job ok.job' h.d c.func)
        by (inr y) s = (insn job (suc h.d) c.func, inr (y.0, refl), y.1, s.tail_new (let z = y.0 in omega (arith, z)), insn-small job ok.job' (suc h.d) c.func)

    pub next_fits : Dispatches job h past ack q c below GotBreak → (next c.func ≡ insn job (suc h.d) c.func) × (next c.func < 2 + job.tramps)
    next_fits x =
        let b = breaks (stage job h.d h.p c.func) c.func (insn job h.d c.func) (insn job (suc h.d) c.func) h.base ack (head c.func) (tail c.func)
        (next c.func) (sites.sites c.func inside) x.at.1 in
        (b.0, subst (λ i. i < 2 + job.tramps) (sym b.0) (insn-small job ok.job' (suc h.d) c.func))

  -- ## the list

  -- a user named by a loaded word is one of the job's, and had no callback and no refusal in the call
  abbrev pub Names : ℕ → Type 0
  Names w = (w ≡ 0) ⊎ ((u : ℕ) × (w ≡ suc u) × (u < length job.users) × IsUnvisited job c.call u past)

  names : (first w : ℕ) → UserList job h.d h.p h.order first h.link → Dispatches job h past ack q c below (walks_to w) → Names w
  names first zero list x = inl refl
  names first (suc u) list x =
      let before : BeforeVisit job h q ByList u (visits job c.call past) = subst (λ r. BeforeVisit job h q r u (visits job c.call past)) x.at.2 x.at.1 in
      let now = walk-since job ok h q clock past counts legal list.order' u before.0 in
      inr (
        u,
        refl,
        since-inside job ok.job' (list_desk h.p h.d) u now.0,
        none_visited u (since_of job (begun past)) (visits job c.call past)
            (Each-filter (λ m. m.since ≤ since_of job (begun past) m.user) (λ m. same_call m.call c.call) (all_visits job past) (told job ok past legal))
            (subst (λ n. Each (λ (m : Visit). n < m.since) (visits job c.call past)) (sym now.1) before.1),
      )

  pub first_fits : (first : ℕ) → UserList job h.d h.p h.order first h.link → Dispatches job h past ack q c below AtFirst → Names first
  first_fits first list x = names first first list (first_kept job ok h past clock counts ack q c below first list x)

  pub link_fits : (u first : ℕ) → UserList job h.d h.p h.order first h.link → Dispatches job h past ack q c below (AtLink u) → Names (h.link u)
  link_fits u first list x = names first (h.link u) list (link_kept job ok h past clock counts ack q c below u first list x)

  -- ## a trampoline

  -- its word names a user of the job
  pub tramp_fits : (slot t : ℕ) (tramp : ℕ → ℕ) → TrampolinesHeld job h.d h.p tramp → quiet_reached (effect job h.d) h.p h.request t ≤ q
      → Dispatches job h past ack q c below (InTramp slot)
      → (u : ℕ) × (reg : ℕ) × (u < length job.users) × (tramp slot ≡ tramp_word reg u)
  tramp_fits slot t tramp k passed x = (
    x.at.1.0,
    x.at.1.1,
    registered-inside job x.at.1.2.0.0 x.at.1.0 x.at.1.2.0.3.1.0.0,
    own-word job h past q c slot x.at.1.0 x.at.1.1 t tramp k passed x.at.1.2,
  )
