use Rattle.std.proofs.Common.{◌≡◌, ◌<◌, ◌≤◌, ◌++◌, length, List, ℕ, drop, inr, refl, rules, sym, ap, subst, ◌∙◌, arith, length-drop}
use Rattle.sci_text.specs.Tap.{has_failed, tapped}
use Rattle.sci_command.specs.{PacketLine.{packet_line}, Writing.{IsPrinted}}
use Rattle.scimem.specs.Decoding.{ArePacketsThenFault, fault_word, refusal, spellings}
use Rattle.scimem.proofs.PacketRuns.{Reads, line_parts, place, reads_more, shorter, whole_rest, within}
use Rattle.scimem.proofs.decode.print_packets.Goals as goal

pub loop-rest-smaller : goal.loop-rest-smaller
loop-rest-smaller g c =
    let rest = c.loop-rest.rest.now in
    let k = c.in-Ok.len in
    let pos : 0 < k = shorter rest c.in-Ok.packet k c.in-Ok.ensures.found in
    let fits : k ≤ length rest = c.in-Ok.ensures.length in
    subst (λ (l : List ℕ). length l < length rest) (sym (whole_rest k rest)) (omega (arith, length-drop k rest))

pub loop-rest-preserved : goal.loop-rest-preserved
loop-rest-preserved g c =
    let contents = g.W.Write.contents in
    let start = contents (tapped c.args.writer.now) in
    let input = c.args.input.now in
    let rest = c.loop-rest.rest.now in
    let p = c.in-Ok.packet in
    let k = c.in-Ok.len in
    let so = c.loop-rest.invariant.printed in
    let last = c.print_piece-in-Ok in
    let head = c.as_slice.result.now in
    let more : Reads input (drop k rest) (so.0 ++ packet_line p) = reads_more input rest so.0 p k so.1 c.in-Ok.ensures.found in
    let line = line_parts so.0 head c.as_slice-in-Ok.result.now p (c.as_slice.ensures ∙ c.packet_head.ensures)
    (c.as_slice-in-Ok.ensures ∙ c.packet_tail.ensures) in
    let printed = last.ensures.printed start (so.0 ++ head) (c.print_piece.ensures.printed start so.0 so.2) in
    record {
      printed = (
        so.0 ++ packet_line p,
        rw (whole_rest k rest) more,
        subst (IsPrinted start (contents (tapped last.new.writer)) (has_failed last.new.writer) last.new.waiting.items) line printed,
      );
      again = last.ensures.again ∙ (c.print_piece.ensures.again ∙ c.loop-rest.invariant.again);
    }

pub returns-in-Err-clause-printed : goal.returns-in-Err-clause-printed
returns-in-Err-clause-printed g c =
    let contents = g.W.Write.contents in
    let start = contents (tapped c.args.writer.now) in
    let input = c.args.input.now in
    let rest = c.loop-rest.rest.now in
    let fault = c.in-Err.fault in
    let so = c.loop-rest.invariant.printed in
    let said = c.as_slice-in-Err.result.now in
    let here = place input rest so.0 so.1 in
    let few = within input rest so.0 so.1 in
    let is : said ≡ refusal (length (spellings so.1.packets)) (fault_word fault) =
    c.as_slice-in-Err.ensures ∙ c.refusal_of.ensures ∙ (λ i. refusal (here i) (c.word_of.ensures.word i)) in
    let found : ArePacketsThenFault input (so.0 ++ said) =
    record {
      packets = so.1.packets;
      rest = rest;
      fault = fault;
      run = so.1.run;
      goes_on = search rules;
      none = search rules;
      found = search rules;
      lines = rw is (ap (λ (l : List ℕ). l ++ refusal (length (spellings so.1.packets)) (fault_word fault)) so.1.lines);
    } in
    (so.0 ++ said, inr (found, refl), c.print_piece-in-Err.ensures.printed start so.0 so.2)
