use Rattle.std.proofs.Common.{◌≡◌, ℕ, suc, ◌+◌, ◌≤◌, length, get_or, is_some, ap, ◌∙◌, not, arith}
use Rattle.std.proofs.lemmas.List.{get_or_read}
use Rattle.ft_base.specs.Marks.{holds}
use Rattle.site_counts.specs.declared.rows.Row.{Row}
use Rattle.site_counts.specs.Rows.{row_of}
use Rattle.ft_desk.specs.Users.{insn_by, no_user, user_of}
use Rattle.ft_desk.specs.Moves.{moved, moved_row}
use Rattle.ft_desk.proofs.SiteLaws.{step, changed-none}
use Rattle.ft_desk.proofs.MoveLaws.{stays, leaves-not_comes, moved_insn, moved_row-is, moved-is, row-stays, total-stays, more-done, less-left}
use Rattle.ft_desk.proofs.sites.move_user.Goals as goal

pub loop-f-preserved : goal.loop-f-preserved
loop-f-preserved c =
    let next = c.in-Some.ensures.some in
    let was = c.loop-f.invariant in
    let f = c.in-Some.f in
    let users = c.args.users.now in
    let u = c.args.user.0 in
    let rows = c.args.counts.now in
    let totals = c.args.totals.now in
    let came = c.args.came.now in
    let left = c.args.left.now in
    let within : f + 1 ≤ length rows = omega (arith, next.high, c.requires.came) in
    let apart : holds left f ≡ not (holds came f) = leaves-not_comes _ _ next.member (c.requires.moves f (omega arith)).apart in
    let this : c.index-users-user.result ≡ user_of users u = get_or_read users u c.index-users-user.result c.requires.user c.index-users-user.is no_user in
    let row : row_of c.loop-f.counts f ≡ row_of rows f = was.rows_rest f next.low in
    let total : get_or c.loop-f.totals f 0 ≡ get_or totals f 0 = was.totals_rest f next.low in
    let count : c.row-count.result ≡ row_of rows f = c.row-count.ensures ∙ row in
    record {
      within = within;
      size = c.move_at.ensures.size ∙ was.size;
      long = c.move_at.auto.totals ∙ was.long;
      room = omega (arith, c.list_change.ensures.len, was.room, next.low);
      capacity = c.list_change.ensures.capacity ∙ was.capacity;
      rows = more-done (row_of c.move_at.new.counts) (row_of c.loop-f.counts) (row_of rows)
          (λ g. moved_row (holds came g) (holds left g) (user_of users u).regs (is_some (user_of users u).ipmodify) (row_of rows g)) c.loop-f.from f next.low was.rows was.rows_rest
          (λ g low high. row-stays _ _ _ _ _ (next.least g low high))
          (c.move_at.ensures.row ∙ moved_row-is _ _ _ _ _ _ _ c.contains-comes.ensures apart this row) c.move_at.ensures.rows;
      rows_rest = less-left (row_of c.move_at.new.counts) (row_of c.loop-f.counts) (row_of rows)
          (λ g. moved_row (holds came g) (holds left g) (user_of users u).regs (is_some (user_of users u).ipmodify) (row_of rows g)) c.loop-f.from f next.low was.rows was.rows_rest
          (λ g low high. row-stays _ _ _ _ _ (next.least g low high))
          (c.move_at.ensures.row ∙ moved_row-is _ _ _ _ _ _ _ c.contains-comes.ensures apart this row) c.move_at.ensures.rows;
      totals = more-done (λ g. get_or c.move_at.new.totals g 0) (λ g. get_or c.loop-f.totals g 0) (λ g. get_or totals g 0)
          (λ g. moved (holds came g) (holds left g) (suc u) (get_or totals g 0)) c.loop-f.from f next.low was.totals was.totals_rest
          (λ g low high. total-stays _ _ _ _ (next.least g low high))
          (c.move_at.ensures.total ∙ moved-is _ _ _ _ _ _ c.contains-comes.ensures apart total) c.move_at.ensures.totals;
      totals_rest = less-left (λ g. get_or c.move_at.new.totals g 0) (λ g. get_or c.loop-f.totals g 0) (λ g. get_or totals g 0)
          (λ g. moved (holds came g) (holds left g) (suc u) (get_or totals g 0)) c.loop-f.from f next.low was.totals was.totals_rest
          (λ g low high. total-stays _ _ _ _ (next.least g low high))
          (c.move_at.ensures.total ∙ moved-is _ _ _ _ _ _ c.contains-comes.ensures apart total) c.move_at.ensures.totals;
      sites = step _ _ c.loop-f.from f (length rows) c.loop-f.sites.items _ _ _ _ next.low (omega arith)
          (λ g low high. stays users rows totals u came left g (next.least g low high))
          was.sites
          (ap (λ (r : Row). insn_by users r.count (get_or c.loop-f.totals f 0)) count ∙ ap (λ (t : ℕ). insn_by users (row_of rows f).count t) total)
          (ap (λ (t : ℕ). insn_by users (moved c.contains-comes.result (not c.contains-comes.result) 1 c.row-count.result.count) (moved c.contains-comes.result (not c.contains-comes.result) (suc u) t)) total
          ∙ moved_insn users rows totals u came left f c.row-count.result c.contains-comes.result count c.contains-comes.ensures apart)
          c.list_change.ensures.items;
    }

pub returns-clause-sites : goal.returns-clause-sites
returns-clause-sites c = changed-none _ _ c.loop-f.from (length c.args.counts.now) c.loop-f.sites.items _ c.loop-f.invariant.within
    (λ g low high. stays c.args.users.now c.args.counts.now c.args.totals.now c.args.user.0 c.args.came.now c.args.left.now g (c.in_default.ensures.none g low))
    c.loop-f.invariant.sites
