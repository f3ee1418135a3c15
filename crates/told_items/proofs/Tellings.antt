-- What is open after one more item.
use Rattle.std.proofs.Common.{◌≡◌, List, ap₂}
use Rattle.ft_base.specs.declared.item.Item.{Item}
use Rattle.ft_base.specs.Job.{Job}
use Rattle.told_items.specs.declared.told.Opened.{Opened}
use Rattle.told_items.specs.declared.told.Owed.{Owed}
use Rattle.told_items.specs.Fields.{fields_text}
use Rattle.told_items.specs.ItemText.{item_fields, open_fields}

-- the fields of an item, by what is kept
pub item-is : (job : Job) (item : Item) {calls calls' : List Opened} {exits exits' : List Owed} → calls ≡ calls' → exits ≡ exits'
    → fields_text (item_fields job calls exits item) ≡ fields_text (item_fields job calls' exits' item)
item-is job item e f = ap₂ (λ (cs : List Opened) (es : List Owed). fields_text (item_fields job cs es item)) e f

-- the calls that are open at the end, by what is kept
pub open-is : (job : Job) {calls calls' : List Opened} {exits exits' : List Owed} → calls ≡ calls' → exits ≡ exits'
    → fields_text (open_fields job calls exits) ≡ fields_text (open_fields job calls' exits')
open-is job e f = ap₂ (λ (cs : List Opened) (es : List Owed). fields_text (open_fields job cs es)) e f
