-- Each callback of the history is in a call that was entered in a function below 4, and each exit comes after its entry.
use Rattle.std.proofs.Common.{sym, subst, lit<}
use Rattle.func_profile.specs.Rows.{HasRows}
use Rattle.func_profile.proofs.WrittenOut.{rows-by}
use Rattle.vocabulary_tests.proofs.histories.profiles.profiles_nested_calls.Goals as goal

pub rows-requires : goal.rows-requires
rows-requires g c =
    subst (λ items. HasRows 4 items) (sym c.in_ok-history.ensures)
    (rows-by 4 _ (lit< tt, lit< tt, (lit< tt, lit< tt, (lit< tt, (lit< tt, (lit< tt, tt))))))
