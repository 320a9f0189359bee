use Rattle.sci_reports.proofs.order_json.write_reason.Goals as goal

pub returns : goal.returns
returns c = rw c.reason_words.ensures at c.write_text.ensures
