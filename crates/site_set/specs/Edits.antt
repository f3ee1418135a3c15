-- The edit of a filter as plain data.
use Rattle.ft_base.specs.Job.{Edit as PlainEdit}
use Rattle.site_set.specs.declared.edits.Edit.{Edit}

-- the edit as a job has it, with its set as marks
abbrev pub plain_edit : Edit → PlainEdit
plain_edit edit = record { append = edit.append; remove = edit.remove; clear = edit.clear; set = edit.set }
