-- What holds between lines holds after a command.
use Rattle.std.proofs.Common.{cond, ◌≡◌, ◌≢◌, ℕ, suc, ◌+◌, ◌<◌, Bool, true, false, not, ◌&&◌, ◌||◌, List, [], length, get_or, set, is_some, refl, sym, ap, ◌∙◌, subst, arith, inl, inr, get_or-set_same, get_or-set_other}
use Rattle.std.proofs.lemmas.Bool.{cases_eq}
use Rattle.std.proofs.lemmas.List.{length-set}
use Rattle.ft_base.specs.declared.item.Answer.{Answer}
use Rattle.ft_base.specs.declared.item.Answer.TheVariants.{Already, Invalid, NoMatch}
use Rattle.ft_base.specs.Marks.{Marks, is_empty, union}
use Rattle.ft_base.specs.Job.{Job, Edit, Command, Register, Unregister, Filter, Notrace, Pid, NoPid, Enable, Disable, MaxDepth, funcs}
use Rattle.ft_base.specs.Desk.{Desk, UserState, unseen, user_at, spec_at, is_matching, is_accepted, answer_on, register_answer, edit_answer, claim, changed, edited, with_user, registered_as, unregistered_as}
use Rattle.ft_base.specs.WellFormed.{IsNamedIn}
use Rattle.ft_base.proofs.Small.{false_true}
use Rattle.ft_base.proofs.DeskLaws.{user_at-same, user_at-other}
use Rattle.ft_base.proofs.Modifiers.{Lone, lone-changed}
use Rattle.filter_hash.proofs.EditLaws.{length-edited}
use Rattle.ft_desk.specs.Declarations.{job_of}
use Rattle.ft_desk.proofs.ClaimLaws.{funcs-is}
use Rattle.site_set.proofs.MarksLemmas.{length-union}
use Rattle.module_table.specs.Lines.{Between, Plain, own_of, hidden_now, mask, replacing, selects, command_for, own_by, after_line}
use Rattle.module_table.specs.Reached.{IsReached, binds}
use Rattle.module_table.proofs.HiddenLaws.{edited-replacing}

-- ## what accepted answers say

-- a user that replaces functions has a filter when it is registered
register-filter : (job : Job) (d : Desk) (u : ℕ) → is_some (spec_at job u).ipmodify ≡ true → is_accepted (register_answer job d u) ≡ true → is_empty (user_at d u).filter ≡ false
register-filter job d u ip e = by (user_at d u).registered (not (spec_at job u).regs) (is_empty (user_at d u).filter) refl (rw ip at e)
  where
    claimed : Answer
    claimed = claim job d u (user_at d u).filter (user_at d u).notrace

    by : (a r b : Bool) → is_empty (user_at d u).filter ≡ b → is_accepted (cond a Already (cond (r || b) Invalid claimed)) ≡ true → is_empty (user_at d u).filter ≡ false
    by true r b h x = false_true x
    by false true b h x = false_true x
    by false false true h x = false_true x
    by false false false h x = h

-- and after an edit
edit-filter : (job : Job) (d : Desk) (u : ℕ) (e : Edit) (filter notrace : Marks) → ((user_at d u).registered && is_some (spec_at job u).ipmodify) ≡ true
    → is_accepted (edit_answer job d u e filter notrace) ≡ true → is_empty filter ≡ false
edit-filter job d u e filter notrace bound x = by (selects e) (is_empty filter) refl (rw bound at x)
  where
    by : (s b : Bool) → is_empty filter ≡ b → is_accepted (cond (s && b) Invalid (cond (not s) NoMatch (claim job d u filter notrace))) ≡ true → is_empty filter ≡ false
    by true true h y = false_true y
    by false true h y = false_true y
    by s false h y = h

-- an edit that selects nothing is not accepted
pub edit-selects : (job : Job) (d : Desk) (u : ℕ) (e : Edit) (filter notrace : Marks) → selects e ≡ false → is_accepted (edit_answer job d u e filter notrace) ≡ false
edit-selects job d u e filter notrace nothing = rw nothing (by ((user_at d u).registered && is_some (spec_at job u).ipmodify))
  where
    by : (b : Bool) → is_accepted (cond ((b && false) && is_empty filter) Invalid NoMatch) ≡ false
    by true = refl
    by false = refl

-- ## one user changes

module _ (b : Between) (is : IsReached b) where
  abbrev job : Job
  job = job_of b.declared

  abbrev count : ℕ
  count = length b.declared.specs

  size-is : funcs job ≡ b.declared.funcs
  size-is = funcs-is b.declared.funcs

  alone : Lone job b.desk
  alone f u v l x y = is.alone f u v (let e = size-is in omega arith) x y

  abbrev with_desk : List Marks → Desk → Between
  with_desk own desk = record b { own = own; desk = desk; commands = b.commands + 1 }

  -- what the changed user and the own sets have to meet
  record IsFit (u : ℕ) (s : UserState) (own : List Marks) : Type 0 where
    pub inside : u < count
    pub sets : length own ≡ count
    pub others : (v : ℕ) → v ≢ u → get_or own v [] ≡ own_of b v
    pub set : length (get_or own u []) ≡ b.declared.funcs
    pub filter : length s.filter ≡ b.declared.funcs
    pub notrace : s.notrace ≡ union (get_or own u []) (hidden_now b)
    pub filters : (s.registered && is_some (spec_at job u).ipmodify) ≡ true → is_empty s.filter ≡ false
    pub alone : Lone job (with_user b.desk u s)

  module _ (u : ℕ) (s : UserState) (own : List Marks) (fit : IsFit u s own) where
    abbrev next : Desk
    next = with_user b.desk u s

    here : user_at next u ≡ s
    here = user_at-same b.desk u s (let e = is.users in let l = fit.inside in omega arith)

    there : (v : ℕ) → v ≢ u → user_at next v ≡ user_at b.desk v
    there v ne = user_at-other b.desk u v s ne

    either : (v : ℕ) (P : ℕ → Type 0) → P u → (v ≢ u → P v) → P v
    either v P one other = elim (cases_eq v u) [
      | inl same ↦ subst P (sym same) one
      | inr apart ↦ other apart
    ]

    with-user : IsReached (with_desk own (with_user b.desk u s))
    with-user = record {
      owners = is.owners;
      own = fit.sets;
      sets = λ v l. either v (λ w. length (get_or own w []) ≡ b.declared.funcs) fit.set (λ ne. ap length (fit.others v ne) ∙ is.sets v l);
      first = is.first;
      users = length-set b.desk.users u s ∙ is.users;
      sizes = λ v l. either v (λ w. length (user_at next w).filter ≡ b.declared.funcs) (ap (λ (x : UserState). length x.filter) here ∙ fit.filter)
          (λ ne. ap (λ (x : UserState). length x.filter) (there v ne) ∙ is.sizes v l);
      masked = λ v l. either v (λ w. (user_at next w).notrace ≡ union (get_or own w []) (hidden_now b)) (ap (λ (x : UserState). x.notrace) here ∙ fit.notrace)
          (λ ne. ap (λ (x : UserState). x.notrace) (there v ne) ∙ is.masked v l ∙ ap (λ o. union o (hidden_now b)) (sym (fit.others v ne)));
      filters = λ v. either v (λ w. binds (with_desk own next) w → is_empty (user_at next w).filter ≡ false)
          (λ e. ap (λ (x : UserState). is_empty x.filter) here ∙ fit.filters (ap (λ (x : UserState). x.registered && is_some (spec_at job u).ipmodify) (sym here) ∙ e))
          (λ ne e. ap (λ (x : UserState). is_empty x.filter) (there v ne) ∙ is.filters v (ap (λ (x : UserState). x.registered && is_some (spec_at job v).ipmodify) (sym (there v ne)) ∙ e));
      alone = λ f v w l x y. fit.alone f v w (let e = size-is in omega arith) x y;
    }

  -- a user that keeps its notrace set
  keeps : (u : ℕ) (s : UserState) → u < count → length s.filter ≡ b.declared.funcs → s.notrace ≡ (user_at b.desk u).notrace
      → ((s.registered && is_some (spec_at job u).ipmodify) ≡ true → is_empty s.filter ≡ false) → Lone job (with_user b.desk u s)
      → IsReached (with_desk b.own (with_user b.desk u s))
  keeps u s l size same filters lone = with-user u s b.own (record {
    inside = l;
    sets = is.own;
    others = λ v ne. refl;
    set = is.sets u l;
    filter = size;
    notrace = same ∙ is.masked u l;
    filters = filters;
    alone = lone;
  })

  -- the users alone
  abbrev at : List UserState → ℕ → UserState
  at us u = get_or us u (unseen 0)

  abbrev replaced : List UserState → ℕ → ℕ → Bool
  replaced us u f = (at us u).registered && is_some (spec_at job u).ipmodify && is_matching (at us u) f

  -- a desk with the same users
  same-users : (desk : Desk) → desk.users ≡ b.desk.users → IsReached (with_desk b.own desk)
  same-users desk e = record {
    owners = is.owners;
    own = is.own;
    sets = is.sets;
    first = is.first;
    users = ap length e ∙ is.users;
    sizes = λ u l. ap (λ us. length (at us u).filter) e ∙ is.sizes u l;
    masked = λ u l. ap (λ us. (at us u).notrace) e ∙ is.masked u l;
    filters = λ u x. ap (λ us. is_empty (at us u).filter) e ∙ is.filters u (ap (λ us. (at us u).registered && is_some (spec_at job u).ipmodify) (sym e) ∙ x);
    alone = λ f u v l x y. is.alone f u v l (ap (λ us. replaced us u f) (sym e) ∙ x) (ap (λ us. replaced us v f) (sym e) ∙ y);
  }

  lone-of : (k : ℕ) (c : Command) → IsNamedIn count c → is_accepted (answer_on job b.desk c) ≡ true → Lone job (changed job b.desk k c)
  lone-of k c named e = lone-changed job b.desk is.users alone k c named e

  abbrev edited-own : ℕ → Edit → Marks
  edited-own u e = edited b.declared.funcs (own_of b u) e

  -- an edit of an own set
  module _ (k u : ℕ) (e : Edit) (l : u < count) where
    abbrev own : Marks
    own = edited-own u e

    abbrev state : UserState
    state = record (user_at b.desk u) { notrace = edited (funcs job) (user_at b.desk u).notrace (replacing (union own (hidden_now b))) }

    own_size : length own ≡ b.declared.funcs
    own_size = length-edited b.declared.funcs (own_of b u) e (is.sets u l)

    own-here : get_or (set b.own u own) u [] ≡ own
    own-here = get_or-set_same b.own u own [] (let s = is.own in omega arith)

    masks : is_accepted (answer_on job b.desk (mask u own (hidden_now b))) ≡ true
        → IsReached (with_desk (set b.own u own) (changed job b.desk k (mask u own (hidden_now b))))
    masks x = with-user u state (set b.own u own) (record {
      inside = l;
      sets = length-set b.own u own ∙ is.own;
      others = λ v ne. get_or-set_other b.own u v own [] ne;
      set = ap length own-here ∙ own_size;
      filter = is.sizes u l;
      notrace = ap (λ n. edited n (user_at b.desk u).notrace (replacing (union own (hidden_now b)))) (size-is ∙ sym (length-union own (hidden_now b) ∙ own_size))
          ∙ edited-replacing (user_at b.desk u).notrace (union own (hidden_now b)) ∙ ap (λ o. union o (hidden_now b)) (sym own-here);
      filters = λ bound. is.filters u bound;
      alone = lone-of k (mask u own (hidden_now b)) l x;
    })

  accepted : (k : ℕ) (c : Command) → IsNamedIn count c → is_accepted (answer_on job b.desk (command_for b c)) ≡ true
      → IsReached (with_desk (own_by b true c) (changed job b.desk k (command_for b c)))
  accepted k (Register u) named x = keeps u (registered_as job b.desk k (user_at b.desk u)) named (is.sizes u named) refl
      (λ bound. register-filter job b.desk u bound x) (lone-of k (Register u) named x)
  accepted k (Unregister u) named x = keeps u (unregistered_as (user_at b.desk u)) named (is.sizes u named) refl (λ bound. false_true bound) (lone-of k (Unregister u) named x)
  accepted k (Filter u e) named x = keeps u (record (user_at b.desk u) { filter = edited (funcs job) (user_at b.desk u).filter e }) named
      (length-edited (funcs job) (user_at b.desk u).filter e (is.sizes u named ∙ sym size-is) ∙ size-is) refl
      (λ bound. edit-filter job b.desk u e (edited (funcs job) (user_at b.desk u).filter e) (user_at b.desk u).notrace bound x) (lone-of k (Filter u e) named x)
  accepted k (Notrace u e) named x = by (selects e) refl x
    where
      by : (s : Bool) → selects e ≡ s → is_accepted (answer_on job b.desk (cond s (mask u (edited-own u e) (hidden_now b)) (Notrace u e))) ≡ true
          → IsReached (with_desk (set b.own u (edited-own u e)) (changed job b.desk k (cond s (mask u (edited-own u e) (hidden_now b)) (Notrace u e))))
      by true some y = masks k u e named y
      by false none y = false_true (sym (edit-selects job b.desk u e (user_at b.desk u).filter (edited (funcs job) (user_at b.desk u).notrace e) none) ∙ y)
  accepted k (Pid pids) named x = same-users (record b.desk { pids = pids }) refl
  accepted k (NoPid nopids) named x = same-users (record b.desk { nopids = nopids }) refl
  accepted k (Enable u) named x = keeps u (record (user_at b.desk u) { enabled = true }) named (is.sizes u named) refl (is.filters u) (lone-of k (Enable u) named x)
  accepted k (Disable u) named x = keeps u (record (user_at b.desk u) { enabled = false }) named (is.sizes u named) refl (is.filters u) (lone-of k (Disable u) named x)
  accepted k (MaxDepth depth) named x = same-users (record b.desk { depth = depth }) refl

  own-refused : (c : Command) → own_by b false c ≡ b.own
  own-refused (Register u) = refl
  own-refused (Unregister u) = refl
  own-refused (Filter u e) = refl
  own-refused (Notrace u e) = refl
  own-refused (Pid pids) = refl
  own-refused (NoPid nopids) = refl
  own-refused (Enable u) = refl
  own-refused (Disable u) = refl
  own-refused (MaxDepth depth) = refl

  pub reached-command : (c : Command) → IsNamedIn (length b.declared.specs) c → IsReached (after_line b (Plain c))
  reached-command c named = by (is_accepted (answer_on job b.desk (command_for b c))) refl
    where
      by : (a : Bool) → is_accepted (answer_on job b.desk (command_for b c)) ≡ a
          → IsReached (with_desk (own_by b a c) (cond a (changed job b.desk (suc b.commands) (command_for b c)) b.desk))
      by true x = accepted (suc b.commands) c named x
      by false x = subst (λ own. IsReached (with_desk own b.desk)) (sym (own-refused c)) (same-users b.desk refl)
