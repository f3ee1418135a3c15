use Rattle.std.proofs.Common.{◌∷◌, ap, sym, ◌∙◌, reverse, subst}
use Rattle.ft_machine.proofs.MachineLaws.{past-next}
use Rattle.trace_print.specs.declared.kept.Kept.{Kept}
use Rattle.trace_print.specs.Kept.{Has, HasRoom, content_of}
use Rattle.trace_print.proofs.KeptLaws.{past-room, returned-few, returned-next, totals-few, totals-next}
use Rattle.trace_print.proofs.kept.KeptTaker.take.Goals as goal

-- ## there is room

pub push-requires : goal.push-requires
push-requires c = subst (λ (k : Kept). HasRoom k) c.in-History.is c.requires.room

pub take-requires-clause-room : goal.take-requires-clause-room
take-requires-clause-room c = subst (λ (k : Kept). HasRoom k) c.in-Function.is c.requires.room

pub take-requires-clause-next : goal.take-requires-clause-next
take-requires-clause-next c =
    let r = c.requires.next in
    (r.0, r.1, subst (λ (k : Kept). Has r.0 r.1 k) c.in-Function.is r.4.has, r.5, past-room r.0 r.3 r.1 c.args.item r.5)

pub take-requires-in-Profile : goal.take-requires-in-Profile
take-requires-in-Profile c =
    let r = c.requires.next in
    (r.0, r.1, subst (λ (k : Kept). Has r.0 r.1 k) c.in-Profile.is r.4.has, r.5, past-room r.0 r.3 r.1 c.args.item r.5)

pub take-requires-in-Rings : goal.take-requires-in-Rings
take-requires-in-Rings c =
    let r = c.requires.next in
    (r.0, r.1, subst (λ (k : Kept). Has r.0 r.1 k) c.in-Rings.is r.4.has, r.5, past-room r.0 r.3 r.1 c.args.item r.5)

pub returned_with-requires : goal.returned_with-requires
returned_with-requires c =
    let r = c.requires.next in
    returned-few r.0 r.3 r.1 c.args.item r.5 c.in-Returned.returned (subst (λ (k : Kept). Has r.0 r.1 k) c.in-Returned.is r.4.has)

pub add-requires : goal.add-requires
add-requires c =
    let r = c.requires.next in
    (reverse r.1, subst (λ (k : Kept). Has r.0 r.1 k) c.in-Totals.is r.4.has, totals-few r.0 r.3 r.1 c.args.item r.5)

-- ## what it has then

pub returns-in-History : goal.returns-in-History
returns-in-History c = λ job past first limited took legal. record {
  content = took.content ∙ ap content_of c.in-History.is;
  has = past-next past c.in-History.history c.push.new.self c.args.item (subst (λ (k : Kept). Has job past k) c.in-History.is took.has) c.push.ensures.added;
}

pub returns-in-Function : goal.returns-in-Function
returns-in-Function c = λ job past first limited took legal. record {
  content = took.content ∙ ap content_of c.in-Function.is;
  has = c.take.ensures job past (subst (λ (k : Kept). Has job past k) c.in-Function.is took.has) legal;
}

pub returns-in-Profile : goal.returns-in-Profile
returns-in-Profile c = λ job past first limited took legal. record {
  content = took.content ∙ ap content_of c.in-Profile.is;
  has = c.take-in-Profile.ensures job past (subst (λ (k : Kept). Has job past k) c.in-Profile.is took.has) legal (past-room job limited past c.args.item legal);
}

pub returns-in-Returned : goal.returns-in-Returned
returns-in-Returned c = λ job past first limited took legal. record {
  content = took.content ∙ ap content_of c.in-Returned.is;
  has = returned-next past c.args.item c.in-Returned.returned _ (subst (λ (k : Kept). Has job past k) c.in-Returned.is took.has) c.returned_with.ensures;
}

pub returns-in-Nothing : goal.returns-in-Nothing
returns-in-Nothing c = λ job past first limited took legal. record {
  content = took.content;
  has = subst (λ (k : Kept). Has job (c.args.item ∷ past) k) (sym c.in-Nothing.is) (tt {0});
}

pub returns-in-Rings : goal.returns-in-Rings
returns-in-Rings c = λ job past first limited took legal. record {
  content = took.content ∙ ap content_of c.in-Rings.is;
  has = c.take-in-Rings.ensures job past (subst (λ (k : Kept). Has job past k) c.in-Rings.is took.has) legal;
}

pub returns-in-Totals : goal.returns-in-Totals
returns-in-Totals c = λ job past first limited took legal. record {
  content = took.content ∙ ap content_of c.in-Totals.is;
  has = totals-next past c.args.item _ (c.add.ensures (reverse past) (subst (λ (k : Kept). Has job past k) c.in-Totals.is took.has));
}
