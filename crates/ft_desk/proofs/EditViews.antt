-- What contracts see of a desk after a user's sets were edited.
use Rattle.std.proofs.Common.{cond, ◌≡◌, ℕ, suc, ◌-◌, ◌<◌, Bool, true, false, not, ◌&&◌, List, [], length, map, get_or, set, Some, refl, sym, ap, ap₂, ◌∙◌, arith, get_or-set_same}
use Rattle.std.specs.Prelude.{replicate}
use Rattle.ft_base.specs.declared.user.Half.{Half}
use Rattle.ft_base.specs.declared.user.Half.TheVariants.{Filter, Notrace}
use Rattle.ft_base.specs.Marks.{Marks}
use Rattle.ft_base.specs.Job.{Edit, no_func}
use Rattle.ft_base.specs.Desk.{UserState, unseen, edited, matches_by}
use Rattle.site_bytes.specs.declared.insn.Insn.{Insn}
use Rattle.site_bytes.specs.declared.insn.SiteChange.{SiteChange}
use Rattle.ft_desk.specs.declared.user.User.{User}
use Rattle.ft_desk.specs.Commands.{edit_command}
use Rattle.ft_desk.specs.RosterInvariant.{IsSized}
use Rattle.word_map.specs.Contents.{digit, other_copy, sel_of}
use Rattle.ft_desk.specs.Plans.{PlainPlan, edit_plan, no_plan, user_no}
use Rattle.ft_desk.specs.DeskView.{DeskView, carried_out}
use Rattle.word_map.specs.Instructions.{insn_at}
use Rattle.ft_desk.specs.Sites.{changed_sites}
use Rattle.ft_desk.specs.Users.{desk_by, edited_pair, edited_user, no_user, state_of, user_of}
use Rattle.ft_desk.proofs.SiteLaws.{changed-ext, changed-none, same_insn-equal}
use Rattle.ft_desk.proofs.SumLaws.{user_at-is}
use Rattle.ft_desk.proofs.ClaimLaws.{funcs-is}
use Rattle.ft_desk.proofs.EditLaws.{SameSites, insn-still}
use Rattle.ft_desk.proofs.ViewLaws.{declared_with, desk_with, insn-with, map-set, set-back}
use Rattle.ft_desk.proofs.DeskViewLaws.{seen, seen-same, declared-still, state-now, next-at, copy-at}

-- the sites by two desks of these users
pub sites-with : (users users' : List User) (pids nopids : Marks) (depth funcs : ℕ)
    → changed_sites (insn_at (desk_by users)) (insn_at (desk_by users')) 0 funcs
    ≡ changed_sites (insn_at (desk_with users pids nopids depth)) (insn_at (desk_with users' pids nopids depth)) 0 funcs
sites-with users users' pids nopids depth funcs =
    changed-ext _ _ _ _ 0 funcs (λ f h. insn-with users pids nopids depth f) (λ f h. insn-with users' pids nopids depth f)

-- no site changes if no instruction does
pub no-sites : (old new : ℕ → Insn) (funcs : ℕ) → ((f : ℕ) → old f ≡ new f) → changed_sites old new 0 funcs ≡ []
no-sites old new funcs same =
    let e : funcs - 0 ≡ funcs = omega arith in
    sym (changed-none old new 0 funcs [] (changed_sites old new 0 funcs) (omega arith) (λ f low high. same_insn-equal (old f) (new f) (same f))
    (ap (λ n. changed_sites old new 0 n) e))

pub other-digit : (b : Bool) → digit (not b) ≡ other_copy (digit b)
other-digit true = refl
other-digit false = refl

-- the state of the user after an edit, as a command changes it
abbrev pub edited_state : ℕ → Half → Edit → UserState → UserState
edited_state size Filter e s = record s { filter = edited size s.filter e }
edited_state size Notrace e s = record s { notrace = edited size s.notrace e }

state-edited : (funcs : ℕ) (half : Half) (e : Edit) (x : User) → IsSized funcs x.pair
    → state_of (edited_user half e x) ≡ edited_state (length (replicate funcs no_func)) half e (state_of x)
state-edited funcs Filter e x s = ap (λ n. record (state_of x) { filter = edited n x.pair.filter e }) (s.filter ∙ sym (funcs-is funcs))
state-edited funcs Notrace e x s = ap (λ n. record (state_of x) { notrace = edited n x.pair.notrace e }) (s.filter ∙ sym (funcs-is funcs))

-- the copies after an edit
copies-edited : (half : Half) (e : Edit) (users : List User) (u : ℕ) → u < length users
    → map (λ (x : User). digit x.second) (set users u (edited_user half e (user_of users u)))
    ≡ cond (user_of users u).registered (set (map (λ (x : User). digit x.second) users) u (other_copy (digit (user_of users u).second))) (map (λ (x : User). digit x.second) users)
copies-edited half e users u h = by (user_of users u).registered refl
  where
    by : (b : Bool) → (user_of users u).registered ≡ b
        → map (λ (x : User). digit x.second) (set users u (edited_user half e (user_of users u)))
        ≡ cond b (set (map (λ (x : User). digit x.second) users) u (other_copy (digit (user_of users u).second))) (map (λ (x : User). digit x.second) users)
    by true r = map-set (λ (x : User). digit x.second) users u (edited_user half e (user_of users u))
        ∙ ap (set (map (λ (x : User). digit x.second) users) u) (ap (λ b. digit (cond b (not (user_of users u).second) (user_of users u).second)) r ∙ other-digit (user_of users u).second)
    by false r = set-back (λ (x : User). digit x.second) users u (edited_user half e (user_of users u)) no_user h
        (ap (λ b. digit (cond b (not (user_of users u).second) (user_of users u).second)) r)

-- what is seen after an edit that a command of this half makes, with the same words for both halves
abbrev edit_seen : DeskView → ℕ → Half → Edit → Bool → UserState → ℕ → DeskView
edit_seen s u half e registered was copy =
    let next = record s.state { users = set s.state.users u (edited_state (length (replicate s.declared.funcs no_func)) half e was) } in
    record s {
      state = next;
      copies = cond registered (set s.copies u (other_copy copy)) s.copies;
      commands = suc s.commands;
      plan = edit_plan s.state next s.declared.funcs u copy registered;
    }

edit-is : (s : DeskView) (u : ℕ) (half : Half) (e : Edit)
    → carried_out s (edit_command u half e) ≡ edit_seen s u half e (get_or s.state.users u (unseen 0)).registered (get_or s.state.users u (unseen 0)) (get_or s.copies u 0)
edit-is s u Filter e = refl
edit-is s u Notrace e = refl

abbrev with_edit : PlainPlan → ℕ → ℕ → List SiteChange → PlainPlan
with_edit p u sel sites = record p { user = Some (user_no u); pair = true; sel = Some sel; sites = sites; quiet = true }

with_edit-same : (p : PlainPlan) (u sel sel' : ℕ) (sites sites' : List SiteChange) → p ≡ no_plan → sel ≡ sel' → sites ≡ sites'
    → with_edit p u sel sites ≡ with_edit no_plan u sel' sites'
with_edit-same p u sel sel' sites sites' ep es et = rw (ep, es, et) refl

abbrev with_sites : PlainPlan → List SiteChange → PlainPlan
with_sites p sites = record p { sites = sites }

with_sites-none : (p : PlainPlan) (sites : List SiteChange) → p ≡ no_plan → sites ≡ [] → with_sites p sites ≡ no_plan
with_sites-none p sites ep es = rw (ep, es) refl

module _ (users users' : List User) (funcs funcs' tasks tramps : ℕ) (pids nopids : Marks) (depth : ℕ) (order : List ℕ) (commands commands' : ℕ)
    (plan before after : PlainPlan) (sites : List SiteChange) (u : ℕ) (half : Half) (e : Edit) (this : User) (within : u < length users)
    (sized : IsSized funcs (user_of users u).pair) (eu : users' ≡ set users u (edited_user half e (user_of users u))) (ef : funcs' ≡ funcs)
    (en : commands' ≡ suc commands) (eb : before ≡ no_plan) (et : this ≡ user_of users' u)
    (sites_are : sites ≡ changed_sites (insn_at (desk_by users)) (insn_at (desk_by users')) 0 funcs)
    (if_on : this.registered ≡ true → after ≡ with_edit before u (sel_of (state_of this) (digit this.second)) sites)
    (if_off : this.registered ≡ false → after ≡ with_sites before sites) where
  is-y : this ≡ edited_user half e (user_of users u)
  is-y = et ∙ ap (λ (us : List User). user_of us u) eu ∙ get_or-set_same users u (edited_user half e (user_of users u)) no_user within

  states : map state_of users' ≡ set (map state_of users) u (edited_state (length (replicate funcs no_func)) half e (state_of (user_of users u)))
  states = ap (map state_of) eu ∙ state-now users u (edited_user half e (user_of users u)) within refl _ (state-edited funcs half e (user_of users u) sized)

  next : desk_with users' pids nopids depth
      ≡ record { users = set (map state_of users) u (edited_state (length (replicate funcs no_func)) half e (state_of (user_of users u))); pids = pids; nopids = nopids; depth = depth }
  next = ap (λ ss. record { users = ss; pids = pids; nopids = nopids; depth = depth }) states

  sites-next : sites ≡ changed_sites (insn_at (desk_with users pids nopids depth))
      (insn_at (record { users = set (map state_of users) u (edited_state (length (replicate funcs no_func)) half e (state_of (user_of users u))); pids = pids; nopids = nopids; depth = depth })) 0 funcs
  sites-next = sites_are ∙ sites-with users users' pids nopids depth funcs
      ∙ ap (λ d. changed_sites (insn_at (desk_with users pids nopids depth)) (insn_at d) 0 funcs) next

  sel-next : (user_of users u).registered ≡ true → sel_of (state_of this) (digit this.second)
      ≡ sel_of (get_or (set (map state_of users) u (edited_state (length (replicate funcs no_func)) half e (state_of (user_of users u)))) u (unseen 0)) (other_copy (digit (user_of users u).second))
  sel-next r = ap (λ (x : User). sel_of (state_of x) (digit x.second)) is-y
      ∙ ap₂ sel_of (state-edited funcs half e (user_of users u) sized ∙ sym (next-at users u (edited_user half e (user_of users u)) within refl _))
      (ap (λ b. digit (cond b (not (user_of users u).second) (user_of users u).second)) r ∙ other-digit (user_of users u).second)

  unsited : (user_of users u).registered ≡ false → SameSites (user_of users u) (edited_user half e (user_of users u))
  unsited r = record {
    at = λ f. ap (λ b. b && matches_by (edited_pair half e (user_of users u).pair).filter (edited_pair half e (user_of users u).pair).notrace f) r
        ∙ sym (ap (λ b. b && matches_by (user_of users u).pair.filter (user_of users u).pair.notrace f) r);
    regs = refl;
    ipmodify = refl;
    slot = refl;
  }

  none : (user_of users u).registered ≡ false → sites ≡ []
  none r = sites_are ∙ ap (λ (us : List User). changed_sites (insn_at (desk_by users)) (insn_at (desk_by us)) 0 funcs) eu
      ∙ no-sites _ _ funcs (λ f. sym (insn-still users u (edited_user half e (user_of users u)) within (unsited r) f))

  plans : (b : Bool) → (user_of users u).registered ≡ b
      → after ≡ edit_plan (desk_with users pids nopids depth)
      (record { users = set (map state_of users) u (edited_state (length (replicate funcs no_func)) half e (state_of (user_of users u))); pids = pids; nopids = nopids; depth = depth })
      funcs u (digit (user_of users u).second) b
  plans true r = if_on (ap (λ (x : User). x.registered) is-y ∙ r) ∙ with_edit-same before u _ _ sites _ eb (sel-next r) sites-next
  plans false r = if_off (ap (λ (x : User). x.registered) is-y ∙ r) ∙ with_sites-none before sites eb (none r)

  pub edit-seen : seen (declared_with users' funcs' tasks tramps) (desk_with users' pids nopids depth) (map (λ (x : User). digit x.second) users') order commands' after
      ≡ carried_out (seen (declared_with users funcs tasks tramps) (desk_with users pids nopids depth) (map (λ (x : User). digit x.second) users) order commands plan)
      (edit_command u half e)
  edit-seen =
      seen-same _ _ _ _ _ _ _ _ _ _ _ _
      (declared-still users u (edited_user half e (user_of users u)) within refl users' funcs funcs' tasks tramps eu ef) next
      (ap (λ (us : List User). map (λ (x : User). digit x.second) us) eu ∙ copies-edited half e users u within) refl en (plans (user_of users u).registered refl)
      ∙ sym (edit-is (seen (declared_with users funcs tasks tramps) (desk_with users pids nopids depth) (map (λ (x : User). digit x.second) users) order commands plan) u half e
      ∙ ap₂ (λ (s : UserState) c. edit_seen (seen (declared_with users funcs tasks tramps) (desk_with users pids nopids depth) (map (λ (x : User). digit x.second) users) order commands plan)
      u half e s.registered s c) (user_at-is users u) (copy-at users u))
