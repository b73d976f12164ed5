use Rattle.std.proofs.Common.{◌≡◌, ◌+◌, ◌<◌, ◌≤◌, List, length, ap, sym, subst, ◌∙◌, refl, arith}
use Rattle.std.specs.Prelude.{bit_or}
use Rattle.std.proofs.lemmas.List.{length_push}
use Rattle.rl_split.specs.Outgoing.{outgoing_ops, words_in, word_in, sent_of_first}
use Rattle.rl_split.proofs.Sent.{none_sent, few_sent, all_ops}
use Rattle.rl_access.specs.declared.trace.TraceItem.{TraceItem}
use Rattle.rl_access.specs.Access.{IsBrought}
use Rattle.rl_access.proofs.Brought.{IsSoFar, none_so_far, next_word, brought_more, brought_same, all_brought, none_brought}
use Rattle.rl_access.proofs.UnderWay.{under_way_first, under_way_next, under_way_failed, under_way_done, next_of, still_port, still_fits, sent_as_before}
use Rattle.rl_access.proofs.send.send_all.Goals as goal

pub loop-k-init : goal.loop-k-init
loop-k-init g c = record {
  under_way = rw c.requires.empty (under_way_first _ c.args.which c.args.port (outgoing_ops c.args.layout.now c.args.outgoing.now) _ _);
  value = rw c.requires.empty (none_so_far c.args.layout.now c.args.outgoing.now);
}

pub send_one-item-requires-clause-port : goal.send_one-item-requires-clause-port
send_one-item-requires-clause-port g c = still_port c.loop-k.invariant.under_way c.requires.port

pub send_one-item-requires-clause-fits : goal.send_one-item-requires-clause-fits
send_one-item-requires-clause-fits g c =
    let word = next_word c.args.layout.now c.args.outgoing.now c.loop-k.k c.loop-k-test.true (c.words-k-end.ensures.count _ c.requires.outgoing.location) c.word.ensures.word c.in-Some.is in
    still_fits c.in-Some.word.op c.loop-k.invariant.under_way word.op c.requires.fits

pub push-requires : goal.push-requires
push-requires g c =
    let k = c.loop-k.k in
    omega (arith, c.loop-k.invariant.under_way.count, few_sent c.args.layout.now c.args.outgoing.now k, c.loop-k-test.true, c.words-k-end.ensures.few)

pub returns-then-item : goal.returns-then-item
returns-then-item g c =
    let l = c.args.layout.now in
    let s = c.args.outgoing.now in
    let word = next_word l s c.loop-k.k c.loop-k-test.true (c.words-k-end.ensures.count s.index c.requires.outgoing.location) c.word.ensures.word c.in-Some.is in
    let sent = c.send_one-item.ensures in
    let next = next_of c.requires.in_range word.op sent.item sent.small sent.adapters sent.kinds sent.asked sent.step in
    let all = under_way_failed c.loop-k.invariant.under_way next c.if-item.true in
    record {
      sent = rw c.push.ensures all.sent;
      kinds = all.kinds;
      small = rw c.push.ensures all.small;
      value = λ reads.
          subst (λ (t : List TraceItem). IsBrought l s t 0) (sym c.push.ensures)
          (none_brought l s c.loop-k.trace c.send_one-item.result 0 c.loop-k.invariant.under_way.quiet c.if-item.true);
    }

pub loop-k-preserved : goal.loop-k-preserved
loop-k-preserved g c =
    let l = c.args.layout.now in
    let s = c.args.outgoing.now in
    let k = c.loop-k.k in
    let was = c.loop-k.invariant in
    let sent = c.send_one-item.ensures in
    let word = next_word l s k c.loop-k-test.true (c.words-k-end.ensures.count s.index c.requires.outgoing.location) c.word.ensures.word c.in-Some.is in
    let next = next_of c.requires.in_range word.op sent.item sent.small sent.adapters sent.kinds sent.asked sent.step in
    let more : length (sent_of_first l s (k + 1)) ≡ length (sent_of_first l s k) + 1 = ap length word.more ∙ length_push (sent_of_first l s k) (word_in l s k) in
    record {
      under_way = sent_as_before more c.push.ensures (under_way_next was.under_way next c.if-item.false);
      value = subst (λ (t : List TraceItem). IsSoFar l s (k + 1) t (bit_or c.loop-k.value c.brought-value.result)) (sym c.push.ensures)
          (brought_more l s k c.in-Some.word c.loop-k.trace c.send_one-item.result c.loop-k.value c.brought-value.result word was.under_way.count
          (omega (arith, c.loop-k.auto.value-fits)) (omega (arith, c.brought-value.type_inv)) c.brought-value.ensures was.value);
    }

pub loop-k-preserved-in_default : goal.loop-k-preserved-in_default
loop-k-preserved-in_default g c =
    let l = c.args.layout.now in
    let s = c.args.outgoing.now in
    let k = c.loop-k.k in
    let inside : k < length (words_in l s) = omega (arith, c.loop-k-test.true, c.words-k-end.ensures.count s.index c.requires.outgoing.location) in
    let same = none_sent l s k c.word.result inside c.word.ensures.word c.in_default.is in
    let was = c.loop-k.invariant in
    record {
      under_way = sent_as_before (ap length same) refl was.under_way;
      value = brought_same l s k c.loop-k.trace c.loop-k.value same was.value;
    }

pub returns : goal.returns
returns g c =
    let l = c.args.layout.now in
    let s = c.args.outgoing.now in
    let k = c.loop-k.k in
    let end : length (words_in l s) ≤ k = omega (arith, c.loop-k-test.false, c.words-k-end.ensures.count s.index c.requires.outgoing.location) in
    let all : length (outgoing_ops l s) ≤ length (sent_of_first l s k) = omega (arith, all_ops l s k end) in
    let done = under_way_done c.loop-k.invariant.under_way all in
    record { sent = done.sent; kinds = done.kinds; small = done.small; value = all_brought l s k c.loop-k.trace c.loop-k.value end c.loop-k.invariant.value }
