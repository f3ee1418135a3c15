-- Histories in which no call is under way in a module that isn't loaded.
use Rattle.std.specs.Prelude.{ℕ, ◌≡◌, true, List, ◌∷◌, ◌++◌, reverse, Some, IfSome}
use Rattle.ft_base.specs.declared.number.CallNo.{CallNo}
use Rattle.ft_base.specs.declared.number.FuncNo.{FuncNo}
use Rattle.ft_base.specs.declared.item.Item.{Item}
use Rattle.ft_base.specs.declared.item.Item.TheVariants.{Body}
use Rattle.ft_base.specs.declared.item.Ran.{Ran}
use Rattle.ft_base.specs.Items.{call_of}
use Rattle.ft_base.specs.Job.{Job}
use Rattle.ft_hist.specs.Past.{done, begun, entry_of}
use Rattle.func_table.specs.Modules.{module_of}
use Rattle.module_coverage.specs.Loaded.{is_loaded}

-- the module is loaded after the commands that have returned in this past, and after those that have begun
abbrev pub IsLoadedNow : Job → ℕ → List Item → Type 0
IsLoadedNow job m past = (is_loaded job.lines m (done past) ≡ true) × (is_loaded job.lines m (begun past) ≡ true)

-- the function is there: the module in which it lies, if it lies in one, is loaded now
abbrev pub IsThere : Job → ℕ → List Item → Type 0
IsThere job f past = IfSome (module_of job.functions f) (λ m. IsLoadedNow job m past)

-- at each item of a call, from its Enter to its Ret, the function that was called is there
abbrev pub KeepsLoaded : Job → List Item → Type 0
KeepsLoaded job items = (before : List Item) (item : Item) (after : List Item) (call : CallNo) → items ≡ before ++ item ∷ after → call_of item ≡ Some call
    → IsThere job (entry_of call (item ∷ reverse before)).func (reverse before)

-- at each Body, the function that runs is there, which may be a user's replacement
abbrev pub RunsLoaded : Job → List Item → Type 0
RunsLoaded job items = (before after : List Item) (call : CallNo) (g : FuncNo) (ran : Ran) → items ≡ before ++ Body call g ran ∷ after → IsThere job g.0 (reverse before)
