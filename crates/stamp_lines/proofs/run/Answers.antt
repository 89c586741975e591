use Rattle.std.proofs.Common.{◌≡◌, ◌<◌, ℕ, List, [], length, take, arith, rules, ap, sym, ◌∙◌, subst}
use Rattle.std.specs.Io.KnownBytes.{Consumes, Appends}
use Rattle.line_output.proofs.Lines.{zeros_length}
use Rattle.line_output.proofs.Streams.{streamed_none, streamed_more, streamed_end}
use Rattle.stamp_lines.specs.Output.{answer_line}
use Rattle.stamp_lines.specs.Pieces.{line_buffer}
use Rattle.stamp_lines.proofs.Whole.{whole}
use Rattle.stamp_lines.proofs.run.Goals as goal

pub loop-made-init : goal.loop-made-init
loop-made-init g c = record {
  line_len = zeros_length line_buffer c.requires;
  fits = search rules;
  out_len = search rules;
  streamed = streamed_none answer_line line_buffer (g.R.Read.remaining c.args.input.now) (g.W.Write.contents c.args.output.now);
}

pub returns-then-n-eq0-clause-whole_output : goal.returns-then-n-eq0-clause-whole_output
returns-then-n-eq0-clause-whole_output g c =
    let remaining = g.R.Read.remaining in
    let contents = g.W.Write.contents in
    let none : Consumes (remaining c.loop-made.input) (remaining c.read.new.self) [] = rw c.if-n-eq0.true at c.in_ok-n.ensures.bytes.0 in
    let room : 0 < length c.read.new.buf = search rules in
    λ _. streamed_end answer_line line_buffer (remaining c.args.input.now) (remaining c.loop-made.input) (remaining c.read.new.self) (contents c.args.output.now) (contents c.loop-made.output) (contents c.write_last.new.output) (take c.loop-made.kept c.loop-made.line) whole c.loop-made.invariant.streamed none (c.in_ok-n.ensures.bytes.1 c.if-n-eq0.true room) c.in_ok-write_last.ensures.written

pub loop-made-preserved : goal.loop-made-preserved
loop-made-preserved g c =
    let remaining = g.R.Read.remaining in
    let contents = g.W.Write.contents in
    record {
      line_len = c.in_ok-kept.ensures.line_len_after;
      fits = c.in_ok-kept.ensures.upper_bound;
      out_len = c.in_ok-kept.ensures.out_len ∙ c.loop-made.invariant.out_len;
      streamed = streamed_more answer_line line_buffer (remaining c.args.input.now) (remaining c.loop-made.input) (remaining c.read.new.self) (contents c.args.output.now) (contents c.loop-made.output) (contents c.write_answers.new.output) (take c.loop-made.kept c.loop-made.line) (take c.in_ok-n.n c.read.new.buf) (take c.in_ok-kept.kept c.write_answers.new.line) c.loop-made.invariant.streamed c.in_ok-n.ensures.bytes.0 (record { left = c.in_ok-kept.ensures.line_after; written = c.in_ok-kept.ensures.written });
    }
