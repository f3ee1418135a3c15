-- What an order gets, and what its status says once the reply was written in full.
use Rattle.std.proofs.Common.{◌≡◌, ℕ, ◌≤◌, List, [], Option, Some, None, refl, sym, ap, subst, ◌∙◌, length, length-append, arith}
use Rattle.std.specs.Prelude.{IfSome}
use Rattle.std.specs.Io.KnownBytes.{Consumes}
use Rattle.std.proofs.KnownBytes.{Consumes-nil, Consumes-whole}
use Rattle.ft_base.specs.declared.limits.TheConstants.{INPUT_BYTES}
use Rattle.ft_io.specs.Causes.{GaveAtMost, GaveMore}
use Rattle.ft_words.specs.declared.order.Order.{Order}
use Rattle.ft_words.specs.declared.order.Order.TheVariants.{Replay, Run, Bulk}
use Rattle.ft_io.specs.declared.status.Status.{Status}
use Rattle.ft_io.specs.Status.{code_of}
use Rattle.ft_app.specs.Main.{ReadWhole, Gets, IsToGet, IsReplied, Answers}
use Rattle.ft_app.proofs.Replies.{reply-answers}

-- a source that is left as it was gave nothing
pub unread-within : (remaining remaining' : Option (List ℕ)) → remaining' ≡ remaining → GaveAtMost INPUT_BYTES remaining remaining'
unread-within remaining remaining' same = subst (λ r. GaveAtMost INPUT_BYTES remaining r) (sym same) ([], Consumes-nil remaining, (let z : 0 ≤ INPUT_BYTES = omega arith in z))

-- a source that tells its bytes, and is read to its end, gives what it told
read-told : (remaining remaining' : Option (List ℕ)) (told read : List ℕ) → remaining ≡ Some told → ReadWhole remaining remaining' read → read ≡ told
read-told remaining remaining' told read is_told whole =
    subst (λ o. IfSome o (λ xs. read ≡ xs)) is_told (Consumes-whole remaining remaining' read (λ xs. read ≡ xs) whole.all whole.end refl)

-- an order gets the script that is to come
got-told : (order : Order) (remaining remaining' : Option (List ℕ)) (told read : List ℕ) → IsToGet order remaining told → Gets order remaining remaining' read → read ≡ told
got-told (Replay form) remaining remaining' told read is_told gets = read-told remaining remaining' told read is_told.0 gets
got-told (Run form) remaining remaining' told read is_told gets = read-told remaining remaining' told read is_told.0 gets
got-told (Bulk n) remaining remaining' told read is_told gets = gets.0 ∙ sym is_told

-- and no more than a script may have
pub gets-within : (order : Order) (remaining remaining' : Option (List ℕ)) (script : List ℕ) → Gets order remaining remaining' script → GaveAtMost INPUT_BYTES remaining remaining'
gets-within (Replay form) remaining remaining' script gets = (script, gets.all, gets.short)
gets-within (Run form) remaining remaining' script gets = (script, gets.all, gets.short)
gets-within (Bulk n) remaining remaining' script gets = unread-within remaining remaining' gets.1

-- a source gives no more than it tells
no-more : (remaining remaining' : Option (List ℕ)) (told given : List ℕ) → remaining ≡ Some told → Consumes remaining remaining' given → length given ≤ length told
no-more None remaining' told given e h = absurd cc
no-more (Some xs) None told given e h = absurd h
no-more (Some xs) (Some ys) told given e h =
    let same : xs ≡ told = cc in
    let long = ap (λ (zs : List ℕ). length zs) (sym same ∙ h) ∙ length-append given ys in
    omega (arith, long)

too-long : (remaining remaining' : Option (List ℕ)) (script : List ℕ) → remaining ≡ Some script → length script ≤ INPUT_BYTES → GaveMore INPUT_BYTES remaining remaining' → ⊥
too-long remaining remaining' script told short more =
    let le = no-more remaining remaining' script more.0 told more.1 in
    let long = more.2 in
    absurd (omega (arith, le, short, long))

-- a source that is to give a script that isn't too long doesn't give more
pub not-too-long : (order : Order) (remaining remaining' : Option (List ℕ)) (script : List ℕ) → IsToGet order remaining script → GaveMore INPUT_BYTES remaining remaining'
    → ((n : ℕ) → order ≡ Bulk n → ⊥) → ⊥
not-too-long (Replay form) remaining remaining' script is_to_get more generated = too-long remaining remaining' script is_to_get.0 is_to_get.1 more
not-too-long (Run form) remaining remaining' script is_to_get more generated = too-long remaining remaining' script is_to_get.0 is_to_get.1 more
not-too-long (Bulk n) remaining remaining' script is_to_get more generated = generated n refl

-- ## the code of the reply to what was got, where equal texts have names of their own

module _ (order : Order) (remaining remaining' holds holds' : Option (List ℕ)) (got script : List ℕ) (status : Status) (code : ℕ)
    (gets : Gets order remaining remaining' got) (is_script : script ≡ got) (replied : IsReplied order script status holds holds') (is_code : code ≡ code_of status) where
  replied' : IsReplied order got status holds holds'
  replied' = subst (λ s. IsReplied order s status holds holds') is_script replied

  pub answers : (told : List ℕ) → IsToGet order remaining told → Answers order told code holds holds'
  answers told is_told =
      subst (λ s. Answers order s code holds holds') (got-told order remaining remaining' told got is_told gets)
      (subst (λ n. Answers order got n holds holds') (sym is_code) (reply-answers order holds holds' got status replied'.text replied'.is_reply replied'.written))
