-- Open callbacks, as the items tell them.
use Rattle.std.specs.Prelude.{List, map}
use Rattle.ft_hist.specs.Past as told
use Rattle.history_check.specs.declared.callbacks.Callback.{Callback}
use Rattle.history_check.specs.declared.callbacks.Callbacks.{Callbacks}

-- a callback that is open
abbrev pub callback_of : Callback → told.Callback
callback_of b = record { call = b.call; user = b.user.0; ctx = b.ctx }

-- those that are open, the latest first
abbrev pub callbacks_of : Callbacks → List told.Callback
callbacks_of b = map callback_of b.open.items
