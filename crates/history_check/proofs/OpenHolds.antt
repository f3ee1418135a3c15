-- Whether a call holds a frame, by what is kept of it.
use Rattle.std.proofs.Common.{◌≡◌, ℕ, ◌+◌, ◌<◌, ◌≤◌, Bool, true, false, not, ◌&&◌, ◌||◌, List, [], ◌∷◌, drop, get_or, length, map, refl, sym, ap, ◌∙◌}
use Rattle.std.specs.List.{list_any}
use Rattle.std.proofs.lemmas.List.{at_drop_all, at_drop_more}
use Rattle.ft_base.specs.declared.number.CallNo.{CallNo}
use Rattle.ft_base.specs.declared.item.Item.{Item}
use Rattle.ft_base.specs.Desk.{spec_at}
use Rattle.ft_base.specs.Job.{Job}
use Rattle.ft_base.specs.Kinds.{cancels}
use Rattle.ft_hist.specs.Known.{holds}
use Rattle.ft_hist.specs.Past.{is_dispatched, visits}
use Rattle.ft_hist.proofs.Since.{holds-by, holds_by}
use Rattle.history_check.specs.declared.open_call.OpenCall.{OpenCall}
use Rattle.history_check.specs.declared.open_call.Visit.{Visit}
use Rattle.history_check.specs.TaskCalls.{IsOpenCall, keeps_frame, visit_of}

any-kept : (job : Job) (call : CallNo) (d : Bool) (ms : List Visit) → holds_by job true d (map (visit_of call) ms) ≡ list_any (keeps_frame job d) ms
any-kept job call true ms = by ms
  where
    by : (xs : List Visit) → list_any (λ m. m.framed && not (cancels (spec_at job m.user).kind)) (map (visit_of call) xs) ≡ list_any (keeps_frame job true) xs
    by [] = refl
    by (x ∷ xs) = ap (λ b. (x.framed && not (cancels (spec_at job x.user.0).kind)) || b) (by xs)
any-kept job call false ms = by ms
  where
    by : (xs : List Visit) → list_any (λ m. m.framed && true) (map (visit_of call) xs) ≡ list_any (keeps_frame job false) xs
    by [] = refl
    by (x ∷ xs) = ap (λ b. (x.framed && true) || b) (by xs)

pub holds-is : (job : Job) (past : List Item) (c : OpenCall) → IsOpenCall job past c → list_any (keeps_frame job c.dispatched) c.visits.items ≡ holds job past c.call
holds-is job past c k =
    sym (any-kept job c.call c.dispatched c.visits.items)
    ∙ ap (λ ms. holds_by job true c.dispatched ms) k.visits'
    ∙ ap (λ d. holds_by job true d (visits job c.call past)) k.dispatched
    ∙ ap (λ o. holds_by job o (is_dispatched c.call past) (visits job c.call past)) (sym k.open')
    ∙ sym (holds-by job past c.call)

-- ## a search

-- what passes at this place
pub passes-here : {A : Type 0} (test : A → Bool) (xs : List A) (i : ℕ) (x : A) → i < length xs → x ≡ get_or xs i x → test x ≡ true → list_any test (drop i xs) ≡ list_any test xs → list_any test xs ≡ true
passes-here test xs i x lt at pass so-far = sym so-far ∙ at_drop_more (list_any test) xs i x lt ∙ ap (λ y. test y || list_any test (drop (i + 1) xs)) (sym at) ∙ ap (λ b. b || list_any test (drop (i + 1) xs)) pass

pub fails-here : {A : Type 0} (test : A → Bool) (xs : List A) (i : ℕ) (x : A) → i < length xs → x ≡ get_or xs i x → test x ≡ false → list_any test (drop i xs) ≡ list_any test xs → list_any test (drop (i + 1) xs) ≡ list_any test xs
fails-here test xs i x lt at fail so-far =
    sym (at_drop_more (list_any test) xs i x lt ∙ ap (λ y. test y || list_any test (drop (i + 1) xs)) (sym at) ∙ ap (λ b. b || list_any test (drop (i + 1) xs)) fail) ∙ so-far

pub none-passes : {A : Type 0} (test : A → Bool) (xs : List A) (i : ℕ) → length xs ≤ i → list_any test (drop i xs) ≡ list_any test xs → list_any test xs ≡ false
none-passes test xs i over so-far = sym so-far ∙ at_drop_all (list_any test) xs i over
