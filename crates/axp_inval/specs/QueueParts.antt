-- How the parts of a queue stand for it.
use Rattle.std.specs.VecDeque.{deque_capacity}
use Rattle.axp_inval.specs.declared.queues.LateQueue.TheInside.{Inside}
use Rattle.axp_inval.specs.Queues.{Queue, queue, IsInOrder}

abbrev pub queue_of : Inside → Queue
queue_of a = queue a.pairs.items (deque_capacity a.pairs)

abbrev pub AreInOrder : Inside → Type 0
AreInOrder a = IsInOrder (queue_of a)
