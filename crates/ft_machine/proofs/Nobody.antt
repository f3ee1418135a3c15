-- The site of a function at which nobody is sited has the nop's bytes while no command is under way.
use Rattle.std.proofs.Common.{◌≡◌, ◌∙◌, List, ℕ, [], ap}
use Rattle.ft_base.specs.declared.item.Item.{Item}
use Rattle.ft_base.specs.Desk.{desk, sited, target_by}
use Rattle.ft_base.specs.Job.{Job}
use Rattle.ft_hist.specs.Past.{begun, done}
use Rattle.ft_machine.specs.Sites.{IsWhole}
use Rattle.site_bytes.specs.Bytes.{bytes_of}
use Rattle.site_bytes.specs.declared.insn.Insn.TheVariants.{Nop}
use Rattle.word_map.specs.Instructions.{insn_at, insn_of}

pub nobody-nop : (job : Job) (past : List Item) (f : ℕ) (bytes : List ℕ) → IsWhole job past f bytes → begun past ≡ done past → sited (desk job (done past)) f ≡ []
    → bytes ≡ bytes_of f Nop
unfolding insn_at
nobody-nop job past f bytes whole still nobody =
    let d = desk job (done past) in
    whole.between still ∙ ap (λ users. bytes_of f (insn_of d (target_by d users))) nobody
