-- How the modules are kept, and what contracts see of them.
use Rattle.std.specs.Prelude.{◌≡◌, ◌≤◌, map, length, is_some}
use Rattle.ft_base.specs.declared.limits.TheConstants.{FUNCS, USERS}
use Rattle.module_table.specs.declared.modules.Modules.TheInside.{Inside}
use Rattle.module_table.specs.Lines.{Between}
use Rattle.module_table.specs.Reached.{IsReached}

-- what is known between two lines
abbrev pub between : Inside → Between
between m = record {
  declared = m.desk.declared;
  owners = m.owners.items;
  first = m.first;
  loaded = m.loaded.items;
  own = m.own.items;
  desk = m.desk.state;
  commands = m.desk.commands;
}

-- it can be reached, it is known which users replace functions, and the graph depth is the desk's
pub record ModulesInvariant (m : Inside) : Type 0 where
  pub reached : IsReached (between m)
  pub modifiers : m.modifiers.items ≡ map (λ s. is_some s.ipmodify) m.desk.declared.specs
  pub few : length m.desk.declared.specs ≤ USERS
  pub modules : length m.loaded.items ≤ FUNCS
  pub small : m.desk.declared.funcs ≤ FUNCS
  pub depth : m.depth ≡ m.desk.state.depth
