use Rattle.std.proofs.Common.{◌++◌}
use Rattle.command_line.specs.Audits.{word_text, fates_text, found_text, lives_text, malformed_text, parts_text, run_text, toward_text}
use Rattle.command_line.proofs.Verdicts.Judged.{joins, stays, whether_ok}
use Rattle.command_line.proofs.verdict.write_found.Goals as goal

pub returns-clause-written : goal.returns-clause-written
returns-clause-written g c =
    let b = c.args.layout.now in
    let v = c.args.found in
    let last = word_text v in
    let toward = toward_text b v.toward ++ last in
    let fates = fates_text b v.unsuited ++ toward in
    let parts = parts_text b v ++ fates in
    let malformed = malformed_text b v.malformed ++ parts in
    let lives = lives_text b v.unmade ++ malformed in
    let begun = g.W.Output.contents c.args.writer.now in
    let after_run = g.W.Output.contents c.write_run.new.writer in
    let after_lives = g.W.Output.contents c.write_lives.new.writer in
    let after_malformed = g.W.Output.contents c.write_malformed.new.writer in
    let after_parts = g.W.Output.contents c.write_parts.new.writer in
    let after_fates = g.W.Output.contents c.write_fates.new.writer in
    let after_toward = g.W.Output.contents c.write_toward.new.writer in
    let after_word = g.W.Output.contents c.write_word.new.writer in
    whether_ok c.flush.result
    (stays begun after_word (g.W.Output.contents c.flush.new.self) (found_text b v)
    (joins begun after_run after_word (run_text b v.stray) lives c.in_ok-write_run.ensures.written
    (joins after_run after_lives after_word (lives_text b v.unmade) malformed c.in_ok-write_lives.ensures.written
    (joins after_lives after_malformed after_word (malformed_text b v.malformed) parts c.in_ok-write_malformed.ensures.written
    (joins after_malformed after_parts after_word (parts_text b v) fates c.in_ok-write_parts.ensures.written
    (joins after_parts after_fates after_word (fates_text b v.unsuited) toward c.in_ok-write_fates.ensures.written
    (joins after_fates after_toward after_word (toward_text b v.toward) last c.in_ok-write_toward.ensures.written c.in_ok-write_word.ensures.written))))))
    c.flush.ensures.kept)
