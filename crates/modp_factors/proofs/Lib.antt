mod PiecesLoop
