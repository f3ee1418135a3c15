-- The names that a line holds.
use Rattle.std.specs.Prelude.{◌≡◌, Bool, true, Option, Some, None}
use Rattle.script_text.specs.Lines.{Word}
use Rattle.script_text.specs.Names.{is_name}
use Rattle.script_form.specs.Forms.{UserAct, calls, irqs, LineForm, func, absent, user, call, register, unregister, write, enable, disable, load, unload}

-- a name, if there is one
abbrev pub is_name_or_none : Option Word → Bool
is_name_or_none None = true
is_name_or_none (Some name) = is_name name

-- an act has the name of a function
abbrev pub is_act : Option UserAct → Bool
is_act None = true
is_act (Some (calls function)) = is_name function
is_act (Some (irqs function)) = is_name function

-- what the line holds as a name is one, but for its length
abbrev pub IsWellNamed : LineForm → Type 0
IsWellNamed (func name owner) = (is_name name ≡ true) × (is_name_or_none owner ≡ true)
IsWellNamed (absent owner) = is_name owner ≡ true
IsWellNamed (user u) = (is_name u.name ≡ true) × (is_name_or_none u.ipmodify ≡ true) × (is_act u.act ≡ true)
IsWellNamed (call function) = is_name function ≡ true
IsWellNamed (register name) = is_name name ≡ true
IsWellNamed (unregister name) = is_name name ≡ true
IsWellNamed (write half append name text) = is_name name ≡ true
IsWellNamed (enable name) = is_name name ≡ true
IsWellNamed (disable name) = is_name name ≡ true
IsWellNamed (load owner) = is_name owner ≡ true
IsWellNamed (unload owner) = is_name owner ≡ true
IsWellNamed _ = Unit {0}
