-- What a read finds.
use Rattle.std.proofs.Common.{◌≡◌, ℕ, ◌*◌, ◌/◌, ◌<◌, ◌≤◌, ◌||◌, ◌&&◌, not, Bool, true, false, [], ◌∷◌, refl, ap, ◌∙◌, arith}
use Rattle.std.specs.Prelude.{if◌then◌else◌}
use Rattle.ft_base.specs.Marks.{holds, is_empty}
use Rattle.filter_hash.specs.Pair.{Pair, size_of}
use Rattle.word_map.specs.declared.shape.Shape.{Shape}
use Rattle.word_map.specs.Words.{Words}
use Rattle.word_map.specs.Places.{words_for}
use Rattle.word_map.specs.Contents.{sel_word, is_marked, other_copy}
use Rattle.word_map.proofs.ContentLaws.{marked-is, told}
use Rattle.hash_pages.specs.declared.reader.ReadPhase.{ReadPhase}
use Rattle.hash_pages.specs.declared.reader.ReadPhase.TheVariants.{AtFilter, AtNotrace, Ended}
use Rattle.hash_pages.specs.declared.reader.Verdict.{Verdict}
use Rattle.hash_pages.specs.declared.reader.Verdict.TheVariants.{Off, Apart, On}
use Rattle.hash_pages.specs.Reads.{Read, state_read, verdict_of}
use Rattle.hash_pages.specs.Pages.{Page}
use Rattle.hash_pages.specs.Found.{HasPair, read_over, read_start, right_verdict}
use Rattle.hash_pages.specs.Written.{written}
use Rattle.hash_pages.proofs.WrittenLaws.{copy_kept, state_kept, has_pair, has_state}

-- ## words

-- a read goes on by what a state's word says
state_read-sel_word : (reg copy : ℕ) (r e b : Bool) → copy < 2
    → state_read (sel_word reg r e copy b) ≡ (if r && e then (if b then AtNotrace copy reg else AtFilter copy reg) else Ended Off)
state_read-sel_word reg copy r e b h = let t = told reg copy r e b h in rw (t.0, t.2, t.1, t.3) refl

-- ## a read

module _ (shape : Shape) (u f reg copy : ℕ) (pair : Pair) (first second third : Words) (below : f < size_of pair) (small : copy < 2)
    (there : HasPair second u copy pair) (still : HasPair third u copy pair) where
  within : f / 64 < words_for (size_of pair)
  within = omega arith

  in_filter : is_marked (second.bits u copy 0 (f / 64)) f ≡ holds pair.filter f
  in_filter = ap (λ v. is_marked v f) (there.filter (f / 64) within) ∙ marked-is pair.filter f

  in_notrace : is_marked (second.bits u copy 1 (f / 64)) f ≡ holds pair.notrace f
  in_notrace = ap (λ v. is_marked v f) (there.notrace (f / 64) within) ∙ marked-is pair.notrace f

  still_in_notrace : is_marked (third.bits u copy 1 (f / 64)) f ≡ holds pair.notrace f
  still_in_notrace = ap (λ v. is_marked v f) (still.notrace (f / 64) within) ∙ marked-is pair.notrace f

  -- the read in a phase
  abbrev in_phase : ReadPhase → Read
  in_phase phase = record { shape = shape; user = u; func = f; phase = phase }

  -- what it finds with the words that are there at its second load and at its third
  abbrev found : ReadPhase → Verdict
  found phase = verdict_of (read_over (in_phase phase) (second ∷ third ∷ [])).phase

  abbrev found_last : ReadPhase → Verdict
  found_last phase = verdict_of (read_over (in_phase phase) (third ∷ [])).phase

  -- after the notrace set
  abbrev kept_out : Bool → ReadPhase
  kept_out out = if out then Ended Apart else Ended (On reg)

  abbrev unless_out : Bool → Verdict
  unless_out out = if out then Apart else On reg

  found-kept_out : (out : Bool) → found_last (kept_out out) ≡ unless_out out
  found-kept_out true = refl
  found-kept_out false = refl

  verdict-kept_out : (out : Bool) → verdict_of (kept_out out) ≡ unless_out out
  verdict-kept_out true = refl
  verdict-kept_out false = refl

  -- an empty filter
  found-notrace : found (AtNotrace copy reg) ≡ unless_out (holds pair.notrace f)
  found-notrace = ap (λ out. found_last (kept_out out)) in_notrace ∙ found-kept_out (holds pair.notrace f)

  found_last-notrace : found_last (AtNotrace copy reg) ≡ unless_out (holds pair.notrace f)
  found_last-notrace = ap (λ out. verdict_of (kept_out out)) still_in_notrace ∙ verdict-kept_out (holds pair.notrace f)

  -- any other
  abbrev let_in : Bool → ReadPhase
  let_in inside = if inside then AtNotrace copy reg else Ended Apart

  abbrev if_in : Bool → Verdict
  if_in inside = if inside then unless_out (holds pair.notrace f) else Apart

  found-let_in : (inside : Bool) → found_last (let_in inside) ≡ if_in inside
  found-let_in true = found_last-notrace
  found-let_in false = refl

  found-filter : found (AtFilter copy reg) ≡ if_in (holds pair.filter f)
  found-filter = ap (λ inside. found_last (let_in inside)) in_filter ∙ found-let_in (holds pair.filter f)

  -- all of the state
  abbrev led : Bool → Bool → ReadPhase
  led on empty = if on then (if empty then AtNotrace copy reg else AtFilter copy reg) else Ended Off

  matched : (inside out : Bool) → (if inside then unless_out out else Apart) ≡ (if inside && not out then On reg else Apart)
  matched true true = refl
  matched true false = refl
  matched false out = refl

  found-led : (on empty : Bool) → found (led on empty)
      ≡ (if on then (if (empty || holds pair.filter f) && not (holds pair.notrace f) then On reg else Apart) else Off)
  found-led false empty = refl
  found-led true true = found-notrace ∙ matched true (holds pair.notrace f)
  found-led true false = found-filter ∙ matched (holds pair.filter f) (holds pair.notrace f)

  pub finds : (registered enabled : Bool) → first.sel u ≡ sel_word reg registered enabled copy (is_empty pair.filter)
      → verdict_of (read_over (read_start shape u f) (first ∷ second ∷ third ∷ [])).phase ≡ right_verdict registered enabled pair f reg
  finds registered enabled is =
      ap found (ap state_read is ∙ state_read-sel_word reg copy registered enabled (is_empty pair.filter) small)
      ∙ found-led (registered && enabled) (is_empty pair.filter)

-- ## a read while a page is written

-- before the store of the state
pub finds_old : (p : Page) (old pair : Pair) (f reg i j k : ℕ) (registered enabled : Bool) (ws : Words) → f < size_of old → p.copy < 2
    → ws.sel p.user ≡ sel_word reg registered enabled (other_copy p.copy) (is_empty old.filter) → HasPair ws p.user (other_copy p.copy) old
    → i ≤ 2 * words_for p.shape.funcs
    → verdict_of (read_over (read_start p.shape p.user f) (written p pair i ws ∷ written p pair j ws ∷ written p pair k ws ∷ [])).phase
    ≡ right_verdict registered enabled old f reg
finds_old p old pair f reg i j k registered enabled ws below small is has early =
    finds p.shape p.user f reg (other_copy p.copy) old (written p pair i ws) (written p pair j ws) (written p pair k ws) below (omega arith)
    (still j) (still k) registered enabled (state_kept p pair ws i early ∙ is)
  where
    still : (n : ℕ) → HasPair (written p pair n ws) p.user (other_copy p.copy) old
    still n = record {
      filter = λ w h. copy_kept p pair ws n 0 w small ∙ has.filter w h;
      notrace = λ w h. copy_kept p pair ws n 1 w small ∙ has.notrace w h;
    }

-- after it
pub finds_new : (p : Page) (pair : Pair) (f reg i j k : ℕ) (registered enabled : Bool) (ws : Words) → f < size_of pair → p.copy < 2
    → size_of pair ≡ p.shape.funcs → p.sel ≡ sel_word reg registered enabled p.copy (is_empty pair.filter)
    → 2 * words_for p.shape.funcs < i → i ≤ j → j ≤ k
    → verdict_of (read_over (read_start p.shape p.user f) (written p pair i ws ∷ written p pair j ws ∷ written p pair k ws ∷ [])).phase
    ≡ right_verdict registered enabled pair f reg
finds_new p pair f reg i j k registered enabled ws below small size is late next last =
    finds p.shape p.user f reg p.copy pair (written p pair i ws) (written p pair j ws) (written p pair k ws) below small
    (has_pair p pair ws j size (omega arith)) (has_pair p pair ws k size (omega arith)) registered enabled (has_state p pair ws i late ∙ is)
