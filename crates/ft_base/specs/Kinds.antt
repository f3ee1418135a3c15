-- Kinds of users.
use Rattle.std.specs.Prelude.{Bool, true, false, ◌||◌}
use Rattle.ft_base.specs.declared.user.Kind.{Kind}
use Rattle.ft_base.specs.declared.user.Kind.TheVariants.{Function, Graph, Fprobe, Profile}

-- a function tracer, whose entry callbacks are what the rings of a trace keep (ftrace.rst, The Tracers: function)
abbrev pub is_function : Kind → Bool
is_function Function = true
is_function _ = false

-- an fprobe, which alone can be disabled and enabled (fprobe.rst, The usage of fprobe)
abbrev pub is_fprobe : Kind → Bool
is_fprobe (Fprobe exit cancel) = true
is_fprobe _ = false

-- a user that the depth rule binds
abbrev pub has_depth : Kind → Bool
has_depth Graph = true
has_depth Profile = true
has_depth _ = false

-- an fprobe with an exit handler
abbrev pub has_exit : Kind → Bool
has_exit (Fprobe exit cancel) = exit
has_exit _ = false

-- an fprobe whose entry handler cancels the exit (fprobe.rst, The fprobe entry/exit handler)
abbrev pub cancels : Kind → Bool
cancels (Fprobe exit cancel) = cancel
cancels _ = false

-- a user whose entry callback wants a frame of the shadow stack, for its callback at the return
-- (ftrace.rst, function graph tracer; fprobe.rst, The fprobe entry/exit handler)
abbrev pub wants_frame : Kind → Bool
wants_frame kind = has_depth kind || has_exit kind
