-- Places of owed exits, and open calls, one after the other.
use Rattle.std.proofs.Common.{◌≡◌, ℕ, ◌+◌, ◌<◌, ◌≤◌, Bool, true, false, List, [], ◌∷◌, ◌++◌, length, drop, get_or, codes, arith, refl, sym, ap, ◌∙◌, append_assoc, append-nil}
use Rattle.std.specs.Prelude.{not, ◌&&◌, ◌==◌}
use Rattle.std.proofs.lemmas.List.{drop_all, drop_more}
use Rattle.std.proofs.lemmas.Bool.Decides.{nat_tests}
use Rattle.ft_base.specs.Job.{Job}
use Rattle.ft_base.proofs.Small.{false_true}
use Rattle.told_items.specs.declared.told.Opened.{Opened}
use Rattle.told_items.specs.declared.told.Owed.{Owed}
use Rattle.told_items.specs.Fields.{fields_text}
use Rattle.told_items.specs.Open.{is_owed_to}
use Rattle.told_items.specs.ItemText.{calls_after, comma, open_fields, open_text, place_text, places_after}
use Rattle.ft_base.specs.declared.number.CallNo.{CallNo}

module _ (call : CallNo) (exits : List Owed) (i : ℕ) (t all : List ℕ) (first : Bool) where
  -- the next place
  pub places-more : (d : Owed) (next : Bool) → next ≡ first && not (is_owed_to call (get_or exits i d)) → i < length exits → t ++ places_after first call (drop i exits) ≡ all
      → (t ++ place_text first call (get_or exits i d)) ++ places_after next call (drop (i + 1) exits) ≡ all
  places-more d next is within so_far =
      let o = get_or exits i d in
      let a : t ++ (place_text first call o ++ places_after (first && not (is_owed_to call o)) call (drop (i + 1) exits)) ≡ all = rw (drop_more exits i d within) at so_far in
      rw is (append_assoc t (place_text first call o) (places_after (first && not (is_owed_to call o)) call (drop (i + 1) exits)) ∙ a)

  -- all places
  pub places-all : length exits ≤ i → t ++ places_after first call (drop i exits) ≡ all → t ≡ all
  places-all past so_far = let a : t ++ [] ≡ all = rw (drop_all i exits past) at so_far in sym (append-nil t) ∙ a

module _ (job : Job) (exits : List Owed) (calls : List Opened) (i : ℕ) (t all : List ℕ) (first : Bool) where
  -- the next call
  pub calls-more : (d : Opened) → i < length calls → t ++ calls_after job exits first (drop i calls) ≡ all
      → (t ++ (comma first ++ open_text job exits (get_or calls i d).call)) ++ calls_after job exits false (drop (i + 1) calls) ≡ all
  calls-more d within so_far =
      let rest = calls_after job exits false (drop (i + 1) calls) in
      let one = open_text job exits (get_or calls i d).call in
      let a : t ++ (comma first ++ (one ++ rest)) ≡ all = rw (drop_more calls i d within) at so_far in
      append_assoc t (comma first ++ one) rest ∙ ap (λ (u : List ℕ). t ++ u) (append_assoc (comma first) one rest) ∙ a

  -- all calls
  pub calls-all : length calls ≤ i → t ++ calls_after job exits first (drop i calls) ≡ all → t ≡ all
  calls-all past so_far = let a : t ++ [] ≡ all = rw (drop_all i calls past) at so_far in sym (append-nil t) ∙ a

-- no call is open
pub none-open : (job : Job) (calls : List Opened) (exits : List Owed) → (length calls == 0) ≡ true → [] ≡ fields_text (open_fields job calls exits)
none-open job [] exits is = refl
none-open job (o ∷ rest) exits is = absurd (grind (arith, nat_tests))

-- some are
pub some-open : (job : Job) (calls : List Opened) (exits : List Owed) → (length calls == 0) ≡ false
    → codes ", \"open\": [" ++ (calls_after job exits true calls ++ codes "]") ≡ fields_text (open_fields job calls exits)
some-open job [] exits is = false_true (sym is)
some-open job (o ∷ rest) exits is = ap (λ (u : List ℕ). codes ", \"open\": " ++ (codes "[" ++ u)) (sym (append-nil _))
