use Rattle.clearinghouse.proofs.book.Book.+follow.Given as goal

abbrev pub decreases-follow : goal.decreases-follow
decreases-follow l = l.most
