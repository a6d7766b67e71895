-- `stream::clear_box` meets its contract: tables of zeros are the fresh ones. Assumes nothing.
use Rattle.std.proofs.Common.{sym, ◌∙◌, arith}
use Rattle.lent.proofs.Labelled.{fresh_labels, fresh_owners}
use Rattle.stream.proofs.Fresh.{fresh_by, filled}
use Rattle.stream.proofs.clear_box.Goals as goal

pub returns : goal.returns
returns c =
    let h = c.args.hall.now in record {
      state = fresh_by _ _ _ _ (filled h.plan.link _ 64 c.fill.ensures.after (omega arith))
          (filled h.rule _ 256 c.fill-2.ensures.after (omega arith))
          (filled h.atoms.cut _ 513 c.fill-3.ensures.after (omega arith))
          (filled h.atoms.number _ 512 c.fill-4.ensures.after (omega arith));
      labels = filled h.label _ 512 c.fill-5.ensures.after (omega arith) ∙ sym fresh_labels;
      owners = filled h.owner _ 8192 c.fill-6.ensures.after (omega arith) ∙ sym fresh_owners;
    }
