-- The lines of the form profile, one after the other.
use Rattle.std.proofs.Common.{◌≡◌, ℕ, ◌+◌, ◌<◌, true, false, List, [], ◌∷◌, ◌++◌, length, map, filter, drop, refl, sym, ap, subst, ◌∙◌, append-nil}
use Rattle.std.specs.Prelude.{reverse}
use Rattle.std.specs.List.{range_with_len}
use Rattle.std.proofs.lemmas.List.{reverse-reverse}
use Rattle.ft_base.specs.declared.item.Item.{Item}
use Rattle.ft_base.specs.declared.user.Kind.{Kind}
use Rattle.ft_base.specs.declared.user.Kind.TheVariants.{Profile}
use Rattle.ft_base.specs.Desk.{plain_spec, spec_at}
use Rattle.ft_base.specs.Job.{Job, Spec, funcs}
use Rattle.ft_base.specs.Kinds.{is_fprobe}
use Rattle.ft_hist.specs.Counts.{backs_of, is_back_of, is_missed_by, missed_by}
use Rattle.func_profile.specs.Rows.{has_hit, row_of, rows_of}
use Rattle.func_profile.proofs.TotalLemmas.{filter-long}
use Rattle.ft_base.specs.declared.number.UserNo.{UserNo}
use Rattle.func_profile.specs.declared.profile.ProfileRow.{ProfileRow}
use Rattle.trace_views.specs.declared.profile.ProfileLine.{ProfileLine}
use Rattle.trace_views.specs.declared.profile.ProfileLine.TheVariants.{User, Row, Fprobe}
use Rattle.trace_views.specs.declared.profile.UserTally.{UserTally}
use Rattle.trace_views.specs.ProfileViews.{IsUserTally, rows_for}
use Rattle.trace_views.specs.Words.{is_profile, lines_text, numbered_texts, user_line, user_word}
use Rattle.trace_views.specs.ProfileText.{profile_line_text, row_line, counts_line, fprobe_line, user_profile}
use Rattle.trace_views.proofs.LineTexts.{lines-after, line-after}
use Rattle.trace_views.proofs.NumberedTexts.{numbered_texts-more}
use Rattle.trace_views.proofs.StackSteps.{item-at}

module _ (job : Job) where
  rows-said : (rows : List ProfileRow) → lines_text (profile_line_text job) (map Row rows) ≡ lines_text (row_line job) rows
  rows-said [] = refl
  rows-said (row ∷ rows) = ap (λ (t : List ℕ). row_line job row ++ t) (rows-said rows)

  module _ (lines : List ProfileLine) (u : UserNo) where
    -- a user's lines after others
    pub user_after : (rows : List ProfileRow)
        → lines_text (profile_line_text job) (lines ++ User u ∷ map Row rows) ≡ lines_text (profile_line_text job) lines ++ (user_line (user_word job u.0) ++ lines_text (row_line job) rows)
    user_after rows =
        lines-after (profile_line_text job) lines (User u ∷ map Row rows)
        ∙ ap (λ (t : List ℕ). lines_text (profile_line_text job) lines ++ (user_line (user_word job u.0) ++ t)) (rows-said rows)

    -- an fprobe's line after others
    pub fprobe_after : (hits missed : ℕ)
        → lines_text (profile_line_text job) (lines ++ Fprobe u hits missed ∷ []) ≡ lines_text (profile_line_text job) lines ++ counts_line (user_word job u.0) hits missed
    fprobe_after hits missed = line-after (profile_line_text job) lines (Fprobe u hits missed)

  -- ## what is kept of a user, as lines

  module _ (past : List Item) (lines lines' : List ProfileLine) (u : UserNo) (t : UserTally) (is : IsUserTally job past u.0 t) where
    pub profile-said : is_profile (spec_at job u.0).kind ≡ true → lines' ≡ lines ++ User u ∷ map Row (filter has_hit t.table.rows.items)
        → lines_text (profile_line_text job) lines' ≡ lines_text (profile_line_text job) lines ++ user_profile job (reverse past) u.0 (spec_at job u.0)
    profile-said own grown =
        let many : rows_for job (spec_at job u.0) ≡ funcs job = rw own refl in
        let rows : t.table.rows.items ≡ map (row_of u.0 (reverse (reverse past))) (range_with_len 0 (funcs job)) =
        is.table ∙ ap (λ n. map (row_of u.0 past) (range_with_len 0 n)) many ∙ ap (λ (xs : List Item). map (row_of u.0 xs) (range_with_len 0 (funcs job))) (sym (reverse-reverse past)) in
        let said : user_profile job (reverse past) u.0 (spec_at job u.0) ≡ user_line (user_word job u.0) ++ lines_text (row_line job) (rows_of (reverse past) u.0 (funcs job)) = rw own refl in
        ap (lines_text (profile_line_text job)) grown
        ∙ user_after lines u (filter has_hit t.table.rows.items)
        ∙ ap (λ (rs : List ProfileRow). lines_text (profile_line_text job) lines ++ (user_line (user_word job u.0) ++ lines_text (row_line job) (filter has_hit rs))) rows
        ∙ ap (λ (x : List ℕ). lines_text (profile_line_text job) lines ++ x) (sym said)

    pub fprobe-said : is_fprobe (spec_at job u.0).kind ≡ true → lines' ≡ lines ++ Fprobe u t.hits t.missed ∷ []
        → lines_text (profile_line_text job) lines' ≡ lines_text (profile_line_text job) lines ++ fprobe_line (reverse past) u.0 (spec_at job u.0)
    fprobe-said own grown =
        let hits : t.hits ≡ backs_of u.0 (reverse past) = is.hits ∙ sym (filter-long (λ item. is_back_of u.0 item) past) in
        let missed : t.missed ≡ missed_by u.0 (reverse past) = is.missed ∙ sym (filter-long (λ item. is_missed_by u.0 item) past) in
        let said : fprobe_line (reverse past) u.0 (spec_at job u.0) ≡ counts_line (user_word job u.0) (backs_of u.0 (reverse past)) (missed_by u.0 (reverse past)) = rw own refl in
        ap (lines_text (profile_line_text job)) grown
        ∙ fprobe_after lines u t.hits t.missed
        ∙ ap (λ n. lines_text (profile_line_text job) lines ++ counts_line (user_word job u.0) n t.missed) hits
        ∙ ap (λ n. lines_text (profile_line_text job) lines ++ counts_line (user_word job u.0) (backs_of u.0 (reverse past)) n) missed
        ∙ ap (λ (x : List ℕ). lines_text (profile_line_text job) lines ++ x) (sym said)

  -- a user of another kind has no lines
  pub no-profile : (past : List Item) (lines : List ProfileLine) (u : ℕ) → is_profile (spec_at job u).kind ≡ false
      → lines_text (profile_line_text job) lines ≡ lines_text (profile_line_text job) lines ++ user_profile job (reverse past) u (spec_at job u)
  no-profile past lines u other = rw other (sym (append-nil (lines_text (profile_line_text job) lines)))

  pub no-fprobe : (past : List Item) (lines : List ProfileLine) (u : ℕ) → is_fprobe (spec_at job u).kind ≡ false
      → lines_text (profile_line_text job) lines ≡ lines_text (profile_line_text job) lines ++ fprobe_line (reverse past) u (spec_at job u)
  no-fprobe past lines u other = rw other (sym (append-nil (lines_text (profile_line_text job) lines)))

  -- ## one user after the other

  pub next-user : (text : ℕ → Spec → List ℕ) (before all : List ℕ) (u : ℕ) (now : List ℕ) → u < length job.users → now ≡ before ++ text u (spec_at job u)
      → before ++ numbered_texts text u (drop u job.users) ≡ all → now ++ numbered_texts text (u + 1) (drop (u + 1) job.users) ≡ all
  next-user text before all u now lt grown so_far =
      subst (λ (t : List ℕ). t ++ numbered_texts text (u + 1) (drop (u + 1) job.users) ≡ all) (sym grown)
      (numbered_texts-more text job.users all u (spec_at job u) before (item-at job.users u plain_spec lt) so_far)

pub profile-kind : (kind : Kind) → (kind ≡ Profile → ⊥) → is_profile kind ≡ false
profile-kind Profile h = absurd (h refl)
profile-kind _ h = refl
