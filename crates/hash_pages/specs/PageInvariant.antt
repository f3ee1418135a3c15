-- What a page writer keeps.
use Rattle.std.specs.Prelude.{◌*◌, ◌+◌, ◌<◌, ◌≤◌}
use Rattle.word_map.specs.Places.{words_for}
use Rattle.hash_pages.specs.declared.writer.PageWriter.TheInside.{Inside}
use Rattle.hash_pages.specs.Pages.{Page}

-- the page of the fields
abbrev pub page_of : Inside → Page
page_of w = record { shape = w.map; user = w.user.0; copy = w.copy; sel = w.sel; stored = w.stored }

-- and the fields of the page
abbrev pub fields_of : Page → Inside
fields_of p = record { map = p.shape; user = record { 0 = p.user }; copy = p.copy; sel = p.sel; stored = p.stored }

-- the user and the copy are there, and no more was stored than there is to store
pub record PageInvariant (w : Inside) : Type 0 where
  pub has_user : w.user.0 < w.map.users
  pub has_copy : w.copy < 2
  pub has_stored : w.stored ≤ 2 * words_for w.map.funcs + 1
