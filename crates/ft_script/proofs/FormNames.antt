-- What a line declares as the name of a function, its module or a user is a name, if it isn't too long, and what it says as a version is one.
use Rattle.std.proofs.Common.{◌≡◌, ℕ, Bool, true, false, List, [], ◌∷◌, length, Option, Some, None, refl, subst, codes, arith, if◌then◌else◌}
use Rattle.std.specs.Prelude.{option_map}
use Rattle.std.specs.Option.{IfSome}
use Rattle.std.specs.Str.{bytes_eq}
use Rattle.func_table.specs.Rows.{is_name_or_none}
use Rattle.std.proofs.lemmas.Bool.{ltb-false}
use Rattle.ft_base.specs.declared.limits.TheConstants.{NAME_BYTES}
use Rattle.ft_base.specs.declared.user.Half.{Half}
use Rattle.ft_base.specs.declared.user.Kind.{Kind}
use Rattle.ft_base.specs.Name.{is_name_text}
use Rattle.ft_base.specs.Versions.{IsVersion}
use Rattle.script_text.specs.Lines.{Word, words_of, is_skipped, is_plain}
use Rattle.script_text.specs.Words.{both}
use Rattle.script_text.specs.Names.{is_name, name_of}
use Rattle.script_text.proofs.NameLemmas.{is_name_text-short}
use Rattle.script_form.specs.Forms as form
use Rattle.script_form.specs.Forms.{LineForm, UserAct, skip, version, func, depth, tramps, absent, ring, tracing_off, trigger, user, new_cpu, new_task, new_lane, call, ret, raise, lower, after, register, unregister, write, pids, enable, disable, max_depth, until, load, unload, sched}
use Rattle.script_form.specs.Users.{user_form, user_with, user_of, kind_of, flag, argument, ipmodify_of, act_of}
use Rattle.script_form.specs.Lines.{act_form, unlisted_form, keyed_form, form_of, line_form}
use Rattle.ft_script.specs.Causes.{is_long, is_long_or_none}

abbrev pub OwnerNamed : Option Word → Type 0
OwnerNamed None = Unit {0}
OwnerNamed (Some owner) = is_name owner ≡ true

-- a function's name has a name's bytes, its module's and a user's too; a version is one that there is
abbrev pub Named : LineForm → Type 0
Named (version number) = IsVersion number
Named (func name owner) = (is_name name ≡ true) × OwnerNamed owner
Named (user u) = is_name u.name ≡ true
Named _ = Unit {0}

-- ## forms of words

either : (b : Bool) (x y : Option LineForm) → IfSome x Named → IfSome y Named → IfSome (if b then x else y) Named
either true x y hx hy = hx
either false x y hx hy = hy

of-map : {X : Type 0} (f : X → LineForm) → ((x : X) → Named (f x)) → (o : Option X) → IfSome (option_map f o) Named
of-map f h None = tt
of-map f h (Some x) = h x

of-both : {X Y : Type 0} (f : X → Y → LineForm) → ((x : X) (y : Y) → Named (f x y)) → (o : Option X) (p : Option Y) → IfSome (both f o p) Named
of-both f h None p = tt
of-both f h (Some x) None = tt
of-both f h (Some x) (Some y) = h x y

of-none : (f : LineForm) → Named f → (args : List Word) → IfSome (form.alone f args) Named
of-none f h [] = h
of-none f h (_ ∷ _) = tt

-- ## each line

name_of-is : (w : Word) (b : Bool) → is_name w ≡ b → IfSome (if b then Some w else None) (λ n. is_name n ≡ true)
name_of-is w true e = e
name_of-is w false e = tt

func-alone : (o : Option Word) → IfSome o (λ n. is_name n ≡ true) → IfSome (option_map (λ n. func n None) o) Named
func-alone None h = tt
func-alone (Some n) h = (h, tt)

func-owned : (o p : Option Word) → IfSome o (λ n. is_name n ≡ true) → IfSome p (λ n. is_name n ≡ true) → IfSome (both (λ n o. func n (Some o)) o p) Named
func-owned None p h hp = tt
func-owned (Some n) None h hp = tt
func-owned (Some n) (Some m) h hp = (h, hp)

in-func : (args : List Word) → IfSome (form.func_form args) Named
in-func [] = tt
in-func (name ∷ []) = func-alone (name_of name) (name_of-is name (is_name name) refl)
in-func (name ∷ owner ∷ []) = func-owned (name_of name) (name_of owner) (name_of-is name (is_name name) refl) (name_of-is owner (is_name owner) refl)
in-func (_ ∷ _ ∷ _ ∷ _) = tt

in-version : (args : List Word) → IfSome (form.version_form args) Named
in-version [] = tt
in-version (n ∷ []) =
    either (bytes_eq n (codes "1")) (Some (version 1)) _ (omega arith, omega arith)
    (either (bytes_eq n (codes "2")) (Some (version 2)) _ (omega arith, omega arith)
    (either (bytes_eq n (codes "3")) (Some (version 3)) None (omega arith, omega arith) tt))
in-version (_ ∷ _ ∷ _) = tt

in-tracing : (args : List Word) → IfSome (form.tracing_form args) Named
in-tracing [] = tt
in-tracing (word ∷ []) = either (bytes_eq word (codes "off")) (Some tracing_off) None tt tt
in-tracing (_ ∷ _ ∷ _) = tt

in-cpu : (args : List Word) → IfSome (form.cpu_form args) Named
in-cpu [] = tt
in-cpu (_ ∷ []) = tt
in-cpu (_ ∷ _ ∷ []) = tt
in-cpu (n ∷ key ∷ quantum ∷ []) = either (bytes_eq key (codes "quantum")) _ None (of-both new_cpu (λ a b. tt) _ _) tt
in-cpu (_ ∷ _ ∷ _ ∷ _ ∷ _) = tt

in-task : (args : List Word) → IfSome (form.task_form args) Named
in-task [] = tt
in-task (_ ∷ []) = tt
in-task (_ ∷ _ ∷ []) = tt
in-task (pid ∷ key ∷ n ∷ []) = either (bytes_eq key (codes "cpu")) _ None (of-both new_task (λ a b. tt) _ _) tt
in-task (_ ∷ _ ∷ _ ∷ _ ∷ _) = tt

in-write : (half : Half) (args : List Word) → IfSome (form.write_form half args) Named
in-write half [] = tt
in-write half (_ ∷ []) = tt
in-write half (name ∷ arrow ∷ []) = either (bytes_eq arrow (codes ">")) _ None (of-map (λ n. write half false n []) (λ w. tt) (name_of name)) tt
in-write half (name ∷ arrow ∷ text ∷ []) = of-both (λ n append. write half append n text) (λ n append. tt) (name_of name) (form.arrow_of arrow)
in-write half (_ ∷ _ ∷ _ ∷ _ ∷ _) = tt

in-until : (args : List Word) → IfSome (form.until_form args) Named
in-until [] = tt
in-until (_ ∷ []) = tt
in-until (pid ∷ n ∷ []) = of-both until (λ a b. tt) _ _
in-until (_ ∷ _ ∷ _ ∷ _) = tt

in-ctl : (args : List Word) → IfSome (form.ctl_form args) Named
in-ctl [] = tt
in-ctl (key ∷ args) =
    either (bytes_eq key (codes "pid")) _ _ (of-map (pids false) (λ l. tt) _)
    (either (bytes_eq key (codes "nopid")) _ _ (of-map (pids true) (λ l. tt) _)
    (either (bytes_eq key (codes "register")) _ _ (of-map register (λ w. tt) _)
    (either (bytes_eq key (codes "unregister")) _ _ (of-map unregister (λ w. tt) _)
    (either (bytes_eq key (codes "filter")) _ _ (in-write Half.Filter args)
    (either (bytes_eq key (codes "notrace")) _ _ (in-write Half.Notrace args)
    (either (bytes_eq key (codes "enable")) _ _ (of-map enable (λ w. tt) _)
    (either (bytes_eq key (codes "disable")) _ _ (of-map disable (λ w. tt) _)
    (either (bytes_eq key (codes "maxdepth")) _ _ (of-map max_depth (λ n. tt) _)
    (either (bytes_eq key (codes "until")) _ _ (in-until args)
    (either (bytes_eq key (codes "load")) _ _ (of-map load (λ w. tt) _)
    (either (bytes_eq key (codes "unload")) _ None (of-map unload (λ w. tt) _) tt)))))))))))

in-user_of : (name : Word) (kind : Kind) (regs : Bool) (m : Option (Option Word)) (pid : Bool) (a : Option (Option UserAct)) → is_name name ≡ true
    → IfSome (user_of name kind regs m pid a) Named
in-user_of name kind regs None pid a is = tt
in-user_of name kind regs (Some m) pid None is = tt
in-user_of name kind regs (Some m) pid (Some a) is = is

in-user_with : (name : Option Word) (kind : Option (Kind × List Word)) → IfSome name (λ n. is_name n ≡ true) → IfSome (user_with name kind) Named
in-user_with None kind is = tt
in-user_with (Some name) None is = tt
in-user_with (Some name) (Some kind) is =
    let regs = flag (codes "regs") kind.1 in
    let modifies = argument (codes "ipmodify") regs.1 in
    let pid = flag (codes "pid") modifies.1 in
    in-user_of name kind.0 regs.0 (ipmodify_of kind.0 modifies.0) pid.0 (act_of pid.1) is

in-user : (args : List Word) → IfSome (user_form args) Named
in-user [] = tt
in-user (name ∷ words) = in-user_with (name_of name) (kind_of words) (name_of-is name (is_name name) refl)

in-act : (key : Word) (args : List Word) → IfSome (act_form key args) Named
in-act key args =
    either (bytes_eq key (codes "call")) _ _ (of-map call (λ w. tt) _)
    (either (bytes_eq key (codes "ret")) _ _ (of-none ret tt args)
    (either (bytes_eq key (codes "softirq")) _ _ (of-none (raise _) tt args)
    (either (bytes_eq key (codes "irq")) _ _ (of-none (raise _) tt args)
    (either (bytes_eq key (codes "nmi")) _ _ (of-none (raise _) tt args)
    (either (bytes_eq key (codes "iret")) _ _ (of-none lower tt args)
    (either (bytes_eq key (codes "after")) _ None (of-map after (λ n. tt) _) tt))))))

in-unlisted : (key : Word) (args : List Word) → IfSome (unlisted_form key args) Named
in-unlisted key args =
    either (bytes_eq key (codes "ftrace")) _ _ (in-version args)
    (either (bytes_eq key (codes "func")) _ _ (in-func args)
    (either (bytes_eq key (codes "depth")) _ _ (of-map depth (λ n. tt) _)
    (either (bytes_eq key (codes "tramps")) _ _ (of-map tramps (λ n. tt) _)
    (either (bytes_eq key (codes "absent")) _ _ (of-map absent (λ w. tt) _)
    (either (bytes_eq key (codes "ring")) _ _ (of-map ring (λ n. tt) _)
    (either (bytes_eq key (codes "tracing")) _ _ (in-tracing args)
    (either (bytes_eq key (codes "trigger")) _ _ (of-map trigger (λ w. tt) _)
    (either (bytes_eq key (codes "user")) _ _ (in-user args)
    (either (bytes_eq key (codes "cpu")) _ _ (in-cpu args)
    (either (bytes_eq key (codes "task")) _ _ (in-task args)
    (either (bytes_eq key (codes "lane")) _ _ (of-map new_lane (λ n. tt) _)
    (in-act key args))))))))))))

in-keyed : (key : Word) (args : List Word) → IfSome (keyed_form key args) Named
in-keyed key args =
    either (bytes_eq key (codes "ctl")) _ _ (in-ctl args)
    (either (bytes_eq key (codes "sched")) _ _ (of-map sched (λ l. tt) _)
    (in-unlisted key args))

in-words : (words : List Word) → IfSome (form_of words) Named
in-words [] = tt
in-words (key ∷ args) = in-keyed key args

-- ## names, and the version

pub form-named : (line : List ℕ) (f : LineForm) → line_form line ≡ Some f → Named f
unfolding line_form
form-named line f e = subst (λ (o : Option LineForm). IfSome o Named) e
    (either (is_skipped (words_of line)) (Some skip) _ tt (either (is_plain line) _ None (in-words (words_of line)) tt))

pub version-is : (line : List ℕ) (number : ℕ) → line_form line ≡ Some (version number) → IsVersion number
version-is line number e = form-named line (version number) e

pub name-short : (w : Word) → is_name w ≡ true → is_long w ≡ false → is_name_text w ≡ true
name-short w e short = is_name_text-short w e (ltb-false NAME_BYTES (length w) short)

pub owner-short : (owner : Option Word) → OwnerNamed owner → is_long_or_none owner ≡ false → is_name_or_none owner ≡ true
owner-short None e short = refl
owner-short (Some w) e short = name-short w e short
