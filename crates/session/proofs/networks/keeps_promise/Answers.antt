use Rattle.session.proofs.networks.keeps_promise.Goals as goal

pub returns : goal.returns
returns g c =
    let e = c.book_of-kept.ensures in
    record { book = rw e.value at e.promise; exact = e.lawful }
