-- What is kept of a history, item by item.
use Rattle.std.proofs.Common.{◌≡◌, ℕ, suc, ◌+◌, ◌<◌, ◌^◌, Bool, false, List, ◌∷◌, ◌++◌, [], ◌||◌, length, map, reverse, refl, sym, ap, ap₂, ◌∙◌, subst, arith, append_assoc}
use Rattle.std.proofs.lemmas.List.{length-reverse, reverse-append, reverse-reverse}
use Rattle.std.specs.List.{list_any}
use Rattle.ft_base.specs.declared.item.Item.{Item}
use Rattle.ft_base.specs.Job.{Spec}
use Rattle.ft_base.proofs.Small.{or-false_both}
use Rattle.ft_base.specs.Desk.{desk}
use Rattle.ft_base.specs.Job.{Job, funcs}
use Rattle.ft_hist.specs.Past.{done}
use Rattle.ft_hist.specs.Rules.{IsLegalPast}
use Rattle.ft_hist.proofs.WindowLaws.{few-done}
use Rattle.user_specs.specs.declared.spec.Spec.{Spec as DeclaredSpec}
use Rattle.user_specs.specs.Plain.{spec_of}
use Rattle.word_machine.specs.Limits.{IsLimited}
use Rattle.ft_words.specs.declared.order.Form.{Form}
use Rattle.ft_words.specs.declared.order.Form.TheVariants as forms
use Rattle.ft_machine.proofs.Bounds.{past-few}
use Rattle.ring_rules.specs.Fold.{fold}
use Rattle.ring_rules.specs.Plan.{plan_of}
use Rattle.trace_views.specs.Counted.{AreTotals}
use Rattle.trace_views.specs.declared.counts.Totals.{Totals as Counted}
use Rattle.trace_views.specs.EnabledText.{enabled_lines, enabled_text}
use Rattle.trace_views.specs.FunctionText.{function_part, function_text}
use Rattle.trace_views.specs.FunctionViews.{HasFunction}
use Rattle.trace_views.specs.GraphText.{graph_text, user_graph}
use Rattle.trace_views.specs.ModulesText.{module_line, modules_text}
use Rattle.trace_views.specs.ProfileText.{fprobe_line, profile_text, user_profile}
use Rattle.trace_views.specs.ProfileViews.{HasProfile}
use Rattle.trace_views.specs.Returned.{done_with}
use Rattle.trace_views.specs.RingViews.{HasRings}
use Rattle.trace_views.specs.RingsText.{rings_body, rings_text}
use Rattle.trace_views.specs.Words.{is_graph, item_texts, last_line, lines_text, numbered_texts}
use Rattle.trace_views.proofs.ReturnedLaws.{done-more}
use Rattle.trace_print.specs.declared.kept.Kept.{Kept}
use Rattle.trace_print.specs.declared.kept.Kept.TheVariants.{History, Graph, NoGraph, Function, Profile, Returned, Nothing, Rings, Totals}
use Rattle.trace_print.specs.Kept.{Has, HasNoGraph, IsEnoughFor, IsKeptOf, ServesForm, content_for, content_of}
use Rattle.trace_print.specs.Texts.{text_of}

-- one more item
module _ (job : Job) (limited : IsLimited job) (past : List Item) (item : Item) (legal : IsLegalPast job (item ∷ past)) where
  pub returned-few : (n : ℕ) → n ≡ done past → n + 1 < 2 ^ 32
  returned-few n is = let few = past-few job limited (item ∷ past) legal in let le = few-done past in omega (arith, is, few, le)

  pub totals-few : length (reverse past) + 1 < 2 ^ 32
  totals-few = let few = past-few job limited (item ∷ past) legal in let same = length-reverse past in omega (arith, few, same)

  pub past-room : length past + 1 < 2 ^ 32
  past-room = let few = past-few job limited (item ∷ past) legal in omega (arith, few)

pub returned-next : (past : List Item) (item : Item) (n m : ℕ) → n ≡ done past → m ≡ done_with item n → m ≡ done (item ∷ past)
returned-next past item n m is next = next ∙ ap (done_with item) is ∙ sym (done-more item past)

pub totals-next : (past : List Item) (item : Item) (t : Counted) → AreTotals (reverse past ++ item ∷ []) t → AreTotals (reverse (item ∷ past)) t
totals-next past item t are = subst (λ (xs : List Item). AreTotals xs t) (sym (reverse-append (item ∷ []) past)) are

-- what has taken items, the latest first, is kept of them in order
pub has-kept : (job : Job) (past : List Item) (kept : Kept) → Has job past kept → IsKeptOf job (reverse past) kept
has-kept job past (History h) has = sym (reverse-reverse h.items) ∙ ap (λ (xs : List Item). reverse xs) has
has-kept job past (Graph h) has = sym (reverse-reverse h.items) ∙ ap (λ (xs : List Item). reverse xs) has
has-kept job past NoGraph has = has
has-kept job past (Function v) has = subst (λ (xs : List Item). HasFunction job xs v) (sym (reverse-reverse past)) has
has-kept job past (Profile v) has = subst (λ (xs : List Item). HasProfile job xs v) (sym (reverse-reverse past)) has
has-kept job past (Returned n) has = has ∙ ap done (sym (reverse-reverse past))
has-kept job past Nothing has = tt
has-kept job past (Rings v) has = subst (λ (xs : List Item). HasRings job xs v) (sym (reverse-reverse past)) has
has-kept job past (Totals t) has = has

-- what is kept for a form is enough for it
pub own-enough : (form : Form) (kept : Kept) → content_of kept ≡ content_for form → IsEnoughFor form kept
own-enough form kept is = subst (ServesForm form) (sym is) (own form)
  where
    own : (f : Form) → ServesForm f (content_for f)
    own forms.Log = tt
    own forms.Function = refl
    own forms.Graph = refl
    own forms.Profile = refl
    own forms.Enabled = refl
    own forms.Modules = refl
    own forms.Rings = refl

-- ## texts, of what is kept for a form

-- lines that are sent, with the names of a job
pub as-sent : {L : Type 0} (text : Job → L → List ℕ) (names job : Job) (slice lines : List L) (ended : Bool) → names ≡ job → slice ≡ lines
    → lines_text (text names) slice ++ last_line ended ≡ lines_text (text job) lines ++ last_line ended
as-sent {L} text names job slice lines ended own same = ap₂ (λ (j : Job) (ls : List L). lines_text (text j) ls ++ last_line ended) own same

-- declared users have the kinds of the job's
pub graph-declared : (users : List DeclaredSpec) → list_any (λ user. is_graph user.kind) users ≡ list_any (λ user. is_graph user.kind) (map spec_of users)
graph-declared [] = refl
graph-declared (user ∷ users) = ap (λ (b : Bool). is_graph user.kind || b) (graph-declared users)

-- a user of another kind has no lines
no-graph-lines : (job : Job) (items : List Item) (u : ℕ) (users : List Spec) → list_any (λ user. is_graph user.kind) users ≡ false → numbered_texts (user_graph job items) u users ≡ []
no-graph-lines job items u [] none = refl
no-graph-lines job items u (user ∷ users) none =
    let both = or-false_both (is_graph user.kind) (list_any (λ user. is_graph user.kind) users) none in
    rw both.0 (no-graph-lines job items (suc u) users both.1)

module _ (job : Job) (form : Form) (items : List Item) (ended : Bool) where
  pub function-is : form ≡ forms.Function → (text : List ℕ) → text ≡ item_texts (function_part job) [] (reverse (reverse items))
      → text ++ last_line ended ≡ text_of form job items ended
  unfolding function_text
  function-is is text same =
      ap (λ (t : List ℕ). t ++ last_line ended) (same ∙ ap (λ (xs : List Item). item_texts (function_part job) [] xs) (reverse-reverse items))
      ∙ ap (λ (f : Form). text_of f job items ended) (sym is)

  pub graph-is : form ≡ forms.Graph → HasNoGraph job → last_line ended ≡ text_of form job items ended
  unfolding graph_text
  graph-is is none =
      ap (λ (t : List ℕ). t ++ last_line ended) (sym (no-graph-lines job items 0 job.users none))
      ∙ ap (λ (f : Form). text_of f job items ended) (sym is)

  pub profile-is : form ≡ forms.Profile → (text : List ℕ)
      → text ≡ numbered_texts (user_profile job (reverse (reverse items))) 0 job.users ++ numbered_texts (fprobe_line (reverse (reverse items))) 0 job.users
      → text ++ last_line ended ≡ text_of form job items ended
  unfolding profile_text
  profile-is is text same =
      ap (λ (t : List ℕ). t ++ last_line ended)
      (same ∙ ap (λ (xs : List Item). numbered_texts (user_profile job xs) 0 job.users ++ numbered_texts (fprobe_line xs) 0 job.users) (reverse-reverse items))
      ∙ append_assoc (numbered_texts (user_profile job items) 0 job.users) (numbered_texts (fprobe_line items) 0 job.users) (last_line ended)
      ∙ ap (λ (f : Form). text_of f job items ended) (sym is)

  pub enabled-is : form ≡ forms.Enabled → (n : ℕ) → n ≡ done (reverse items) → (text : List ℕ) → text ≡ enabled_lines job (desk job n) 0 (funcs job)
      → text ++ last_line ended ≡ text_of form job items ended
  unfolding enabled_text
  enabled-is is n count text same =
      ap (λ (t : List ℕ). t ++ last_line ended) (same ∙ ap (λ k. enabled_lines job (desk job k) 0 (funcs job)) count)
      ∙ ap (λ (f : Form). text_of f job items ended) (sym is)

  pub modules-is : form ≡ forms.Modules → (text : List ℕ) → text ≡ lines_text (module_line job) job.lines.modules
      → text ++ last_line ended ≡ text_of form job items ended
  unfolding modules_text
  modules-is is text same = ap (λ (t : List ℕ). t ++ last_line ended) same ∙ ap (λ (f : Form). text_of f job items ended) (sym is)

  pub rings-is : form ≡ forms.Rings → (text : List ℕ) → text ≡ rings_body job (reverse (reverse items)) (fold (plan_of job) (reverse (reverse items)))
      → text ++ last_line ended ≡ text_of form job items ended
  unfolding rings_text
  rings-is is text same =
      ap (λ (t : List ℕ). t ++ last_line ended) (same ∙ ap (λ (xs : List Item). rings_body job xs (fold (plan_of job) xs)) (reverse-reverse items))
      ∙ ap (λ (f : Form). text_of f job items ended) (sym is)
