use Rattle.std.proofs.Common.{refl}
use Rattle.text.specs.Around.{serials}
use Rattle.text.proofs.Laying.{◌⨾◌, writes_same}
use Rattle.text.proofs.Printed.{join_text, choose_text, apply_text, function_text, let_text}
use Rattle.text.proofs.page.Page.+put_code_in.Goals as goal

pub put_code_in-returns-in-Join : goal.put_code_in-returns-in-Join
put_code_in-returns-in-Join g t c =
    writes_same (join_text (g.S.Store.code c.args.store.now) c.args.handle c.in-Some.ensures (serials c.args.around.now.binders) c.in-Join.is)
    (c.put-in-Join.ensures ⨾ c.put_code_in.ensures ⨾ c.put_between.ensures ⨾ c.put_code_in-in-Join.ensures ⨾ c.put-in-Join-2.ensures)

pub put_code_in-returns-in-Choose : goal.put_code_in-returns-in-Choose
put_code_in-returns-in-Choose g t c =
    writes_same (choose_text (g.S.Store.code c.args.store.now) c.args.handle c.in-Some.ensures (serials c.args.around.now.binders) c.in-Choose.is)
    (c.put-in-Choose.ensures ⨾ c.put_code_in-in-Choose.ensures ⨾ c.put-in-Choose-2.ensures
    ⨾ c.put_code_in-in-Choose-2.ensures ⨾ c.put-in-Choose-3.ensures ⨾ c.put_code_in-in-Choose-3.ensures ⨾ c.put-in-Choose-4.ensures)

pub put_code_in-returns-in-Apply : goal.put_code_in-returns-in-Apply
put_code_in-returns-in-Apply g t c =
    writes_same (apply_text (g.S.Store.code c.args.store.now) c.args.handle c.in-Some.ensures (serials c.args.around.now.binders) c.in-Apply.is)
    (c.put-in-Apply.ensures ⨾ c.put_code_in-in-Apply.ensures ⨾ c.put-in-Apply-2.ensures ⨾ c.put_code_in-in-Apply-2.ensures ⨾ c.put-in-Apply-3.ensures)

pub put_code_in-returns-in-Function : goal.put_code_in-returns-in-Function
put_code_in-returns-in-Function g t c =
    writes_same (function_text (g.S.Store.code c.args.store.now) c.args.handle c.in-Some.ensures (serials c.args.around.now.binders) c.in-Function.is c.level.ensures refl)
    (c.put_fun_head.ensures ⨾ c.put_body.ensures ⨾ c.put-in-Function.ensures)

pub put_code_in-returns-in-Let : goal.put_code_in-returns-in-Let
put_code_in-returns-in-Let g t c =
    writes_same (let_text (g.S.Store.code c.args.store.now) c.args.handle c.in-Some.ensures (serials c.args.around.now.binders) c.in-Let.is c.level-in-Let.ensures refl)
    (c.put_let_head.ensures ⨾ c.put_code_in-in-Let.ensures ⨾ c.put-in-Let.ensures ⨾ c.put_body-in-Let.ensures ⨾ c.put-in-Let-2.ensures)
